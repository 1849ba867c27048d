-- The printed figures: the eleventh question as a test, and below what number each lies.
use mathlib.Core.Path.{◌≡◌, refl}
use mathlib.Core.Bool.{true, false}
use mathlib.Core.Logic.{◌↔◌}
use Prim.Native.Nat.{ℕ, ◌*◌, ◌/◌, ◌≤◌, ◌<◌}
use native.Mathlib.Nat.{le_trans, lt_of_le_of_lt, lt_of_not-le, not-le_of_lt, mul-le-mul, mul-le-mul_right, div-le_of_le-mul}
use native.Mathlib.Omega.{arith}
use borrow.Author.Tests.{leb-true, leb-false, le-leb, lt-leb}
use lib.Dec.{lit<}
use lib.IntN.{ℤ, pos, nat_abs, ◌*ℤ◌}
use Rattle.pair.specs.Enclosure.{Reaches}
use Rattle.pair.specs.declared.Pair.{Pair}
use Rattle.pair.proofs.Laws.{Within, low_within, high_within, times-Within, floor_within, ceil_within, signed_minus-Reaches}
use Rattle.section.specs.declared.Sheet.{Sheet}
use Rattle.section.specs.Sound.{Sound}
use Rattle.section.specs.Working.{scale_of, worked}
use Rattle.section.specs.Figures.{Printed, printed, figures, Question11, allowed}
use Rattle.section.specs.Parts.{Fine}
use Rattle.section.proofs.SheetNumbers.{section_numbers}
use Rattle.section.proofs.SizesOfSheets.{hp_box, sheet_effective_box, sheet_full_box}
use Rattle.section.proofs.SizesOfAxis.{axis_reaches}
use Rattle.section.proofs.Printing.{area_most, printed_area}

-- the eleventh question as a test: true exactly where it is met, false exactly where it is not

module _ (n : ℕ) (q : Sheet) where
  pub allowed_is_met : (allowed n q ≡ true) ↔ Question11 n q
  unfolding allowed
  allowed_is_met = (λ e. record { allowed = leb-true _ _ e }, λ h. le-leb _ _ h.allowed)

  pub not_allowed_is_unmet : (allowed n q ≡ false) ↔ (Question11 n q → ⊥)
  unfolding allowed
  not_allowed_is_unmet = (λ e h. not-le_of_lt (leb-false _ _ e) h.allowed, λ no. lt-leb _ _ (lt_of_not-le (λ h. no (record { allowed = h }))))

-- every figure lies below k, a shift on either side of zero
pub record FiguresBelow (k : ℕ) (p : Printed) : Type 0 where
  pub area : p.area < k
  pub axial : p.axial < k
  pub chi1 : p.chi1 < k
  pub chi2 : p.chi2 < k
  pub shiftlo : nat_abs p.shiftlo < k
  pub shifthi : nat_abs p.shifthi < k

-- how large the figures are: axial at most 4788000, a factor at most 1000, a shift at most 9640000 from zero (the area: Printing)

axial_size : (n fyb gm0 x : ℕ) → fyb ≤ 700 → 1000 ≤ gm0 → x ≤ 6840000000 * n → x * fyb * 1000 / (gm0 * scale_of n) ≤ 4788000
axial_size n fyb gm0 x h k l =
    div-le_of_le-mul (gm0 * scale_of n)
    (omega (arith, mul-le-mul {n₁ = x} {m₁ = fyb} {n₂ = 6840000000 * n} {m₂ = 700} l h, mul-le-mul_right (scale_of n) k))

factor_size : (n : ℕ) (p : Pair) → p.lo ≤ p.hi → p.hi ≤ 1000000 * n → p.lo * 1000 / scale_of n ≤ 1000
factor_size n p h k = div-le_of_le-mul (scale_of n) (omega arith)

module _ {n : ℕ} {q : Sheet} (f : Fine n) (s : Sound q) where
  shift-Reaches : Reaches (96400000000 * n) (worked n q).shift
  unfolding worked
  shift-Reaches =
      let depth = (section_numbers s).web.high in
      let effective = axis_reaches f depth (hp_box s f) (sheet_effective_box s f) in
      let gross = axis_reaches f depth (hp_box s f) (sheet_full_box s f) in
      record { size = le_trans (signed_minus-Reaches effective gross).size (omega arith) }

  hundredfold : {x : ℤ} → Within (96400000000 * n) x → Within (96400000000 * n * 100) (x *ℤ pos 100)
  hundredfold w = times-Within w (omega arith)

  factors_size : ((worked n q).χ₁.lo * 1000 / scale_of n ≤ 1000) × ((worked n q).χ₂.lo * 1000 / scale_of n ≤ 1000)
  unfolding worked
  factors_size =
      let box = sheet_effective_box s f in
      (factor_size n _ box.one.chi.mid box.one.chi.high, factor_size n _ box.two.chi.mid box.two.chi.high)

  pub figures_below : FiguresBelow 10000000000 (figures n q)
  unfolding figures printed
  figures_below =
      let scale : 0 < scale_of n = omega (arith, f.some) in
      let most : 96400000000 * n * 100 ≤ 9640000 * scale_of n = omega arith in
      record {
        area = lt_of_le_of_lt (printed_area f s refl) (lit< tt);
        axial =
            lt_of_le_of_lt (axial_size n q.fyb q.gm0 _ s.q2.fyb.1 s.q2.gm0.0 (omega (arith, area_most f s))) (lit< tt);
        chi1 = lt_of_le_of_lt factors_size.0 (lit< tt);
        chi2 = lt_of_le_of_lt factors_size.1 (lit< tt);
        shiftlo = lt_of_le_of_lt (floor_within scale most (hundredfold (low_within shift-Reaches))).size (lit< tt);
        shifthi = lt_of_le_of_lt (ceil_within scale most (hundredfold (high_within shift-Reaches))).size (lit< tt);
      }
