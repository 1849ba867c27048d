-- The printed figures fit a word.
use mathlib.Core.Path.{◌≡◌, ap, ◌∙◌}
use Rattle.std.proofs.lemmas.Int.{to_z-of_z}
use lib.IntN.{ℤ, pos, ◌*ℤ◌}
use Rattle.pair.specs.Integers.{floor_over, ceil_over}
use Rattle.section.specs.declared.Figures.{Figures}
use Prim.Native.Nat.{ℕ, ◌+◌, ◌*◌, ◌/◌, ◌^◌, ◌≤◌, ◌<◌}
use native.Mathlib.Nat.{lt_of_le_of_lt, mul-pos, mul-le-mul, mul-le-mul_left, div-le_of_le-mul}
use native.Mathlib.Omega.{arith}
use Rattle.pair.specs.Rounding.{ceil_div}
use Rattle.pair.proofs.Numbers.{ceil_le}
use Rattle.section.specs.declared.Sheet.{Sheet}
use Rattle.section.specs.declared.Work.{Work}
use Rattle.section.specs.declared.sound.WorkedSheet.{WorkedSheet}
use Rattle.section.specs.Sound.{Sound}
use Rattle.section.specs.Working.{scale_of, Worked, worked}
use Rattle.section.specs.Figures.{printed, figures}
use Rattle.section.specs.Forms.{work_of, figures_of}
use Rattle.section.specs.Parts.{Fine}
use Rattle.section.proofs.Ends.{scale_most, scale-Fine}
use Rattle.section.proofs.Known.{known}
use Rattle.section.proofs.SheetNumbers.{section_numbers}
use Rattle.section.proofs.SizesOfSheets.{sheet_effective_box}
use Rattle.section.proofs.SizesOfAxis.{area_box}

-- an end in 0.01 mm
pub shift_word : {x S : ℕ} → 100 ≤ S → x < 2 ^ 64 → ceil_div (x * 100) S < 2 ^ 64
shift_word {x} {S} h l = lt_of_le_of_lt (ceil_le {x = x} (omega arith) (omega (arith, mul-le-mul_left {m = 100} {n = S} x h))) l

-- the area of a sheet's working is at most 6840 mm²
pub area_most : {n : ℕ} {q : Sheet} → Fine n → Sound q → ((worked n q).area.lo ≤ (worked n q).area.hi) × ((worked n q).area.hi ≤ 6840000000 * n)
unfolding worked
area_most {n} {q} f s =
    let box = area_box f (section_numbers s).web.high q.t.0 s.q2.t.1 (sheet_effective_box s f) in
    (box.mid, box.high)

-- the parts of the code's form

pub area_of : (x : Worked) {w : Work} → w ≡ work_of x → w.area ≡ x.area
unfolding work_of
area_of x e = ap (λ (y : Work). y.area) e

pub area_fits : {n : ℕ} {q : Sheet} {w : Work} → Fine n → Sound q → w ≡ work_of (worked n q) → (w.area.lo ≤ 6840000000 * n) × (w.area.hi ≤ 6840000000 * n)
area_fits {n} {q} f s e = rw (area_of (worked n q) e) (omega (arith, area_most f s))

pub printed_area : {n : ℕ} {q : Sheet} {a : ℕ} → Fine n → Sound q → a ≡ (figures n q).area → a ≤ 684000
unfolding figures printed
printed_area {n} {q} f s e =
    rw e (div-le_of_le-mul (scale_of n) (omega (arith, area_most f s)))

-- of a sheet with its working: its printed area and axial resistance, and that what they and the allowance form fits a word

module _ (n : ℕ) (q : Sheet) {w : Work} (e : w ≡ work_of (worked n q)) where
  pub area_is : {a : ℕ} → a ≡ w.area.lo * 100 / scale_of n → a ≡ (figures n q).area
  unfolding figures printed
  area_is {a} g = rw (area_of (worked n q) e) at g

  axial_is : w.area.lo * q.fyb * 1000 / (q.gm0 * scale_of n) ≡ (figures n q).axial
  unfolding figures printed
  axial_is = rw (area_of (worked n q) e)

module _ (w : WorkedSheet) where
  abbrev n : ℕ
  n = w.scale.fineness

  abbrev q : Sheet
  q = w.sheet.sheet

  f : Fine n
  f = scale-Fine w.scale

  s : Sound q
  s = known w.sheet.sound

  force_small : w.work.area.lo * q.fyb ≤ 68400000000 * 700
  force_small = mul-le-mul {n₁ = w.work.area.lo} {m₁ = q.fyb} {n₂ = 68400000000} {m₂ = 700} (omega (arith, f.most, area_fits f s w.worked)) s.q2.fyb.1

  pub axial_once : w.work.area.lo * q.fyb < 2 ^ 64
  axial_once = omega (arith, force_small)

  pub axial_thousandfold : w.work.area.lo * q.fyb * 1000 < 2 ^ 64
  axial_thousandfold = omega (arith, force_small)

  pub divisor_some : 0 < q.gm0 * scale_of n
  divisor_some = mul-pos {m = q.gm0} {n = scale_of n} (omega (arith, s.q2.gm0.0)) (omega (arith, f.some))

  pub divisor_word : q.gm0 * scale_of n < 2 ^ 64
  divisor_word = omega (arith, mul-le-mul {n₁ = q.gm0} {m₁ = scale_of n} {n₂ = 1500} {m₂ = 10000000} s.q2.gm0.1 (scale_most f))

  pub axial_shown : w.work.area.lo * q.fyb * 1000 / (q.gm0 * scale_of n) ≡ (figures n q).axial
  axial_shown = axial_is n q w.worked

  pub own_area : w.work.area ≡ (worked n q).area
  own_area = area_of (worked n q) w.worked

  pub area_small : w.work.area.hi ≤ 68400000000
  area_small = omega (arith, f.most, area_fits f s w.worked)

  module _ {a : ℕ} (e : a ≡ (figures n q).area) where
    pub allowed_small : a + q.allow ≤ 685000
    allowed_small = omega (arith, printed_area f s e, s.q2.allow.1)

    pub allowed_word : (a + q.allow) * scale_of n < 2 ^ 64
    allowed_word = omega (arith, mul-le-mul_left {m = n} {n = 10} (a + q.allow) f.most, allowed_small)

pub ruleset axial_steps = (axial_once, axial_thousandfold, divisor_some, divisor_word, axial_shown)

pub ruleset allowance_steps = (own_area, allowed_small, allowed_word)

-- the code's form of the figures, from those of a working
module _ (n : ℕ) (q : Sheet) {w : Work} (e : w ≡ work_of (worked n q)) where
  pub figures_are : {a x c₁ c₂ : ℕ} {lo hi : ℤ} → a ≡ (figures n q).area → x ≡ (figures n q).axial
      → c₁ ≡ w.chi1.lo * 1000 / scale_of n → c₂ ≡ w.chi2.lo * 1000 / scale_of n
      → lo ≡ floor_over (w.shift.lo *ℤ pos 100) (scale_of n) → hi ≡ ceil_over (w.shift.hi *ℤ pos 100) (scale_of n)
      → ◌≡◌ {A = Figures} (record { area = a; axial = x; chi1 = c₁; chi2 = c₂; shiftlo = lo; shifthi = hi }) (figures_of (figures n q))
  unfolding figures printed work_of
  figures_are a_is x_is one two low high =
      λ i. record {
        area = a_is i;
        axial = x_is i;
        chi1 = (one ∙ ap (λ (y : Work). y.chi1.lo * 1000 / scale_of n) e) i;
        chi2 = (two ∙ ap (λ (y : Work). y.chi2.lo * 1000 / scale_of n) e) i;
        shiftlo = (low ∙ ap (λ (y : Work). floor_over (y.shift.lo *ℤ pos 100) (scale_of n)) e) i;
        shifthi = (high ∙ ap (λ (y : Work). ceil_over (y.shift.hi *ℤ pos 100) (scale_of n)) e) i;
      }

pub ruleset shown = (to_z-of_z, figures_are)
