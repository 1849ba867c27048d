-- No subtraction in the working of a sheet that meets the questions is cut at zero: at the scale 1,000,000 by the room it has there, and what is not cut at n
-- is not cut at m × n, since the finer pairs lie inside the coarser ones.
use Prim.Native.Nat.{ℕ, ◌*◌, ◌≤◌, ◌<◌}
use mathlib.Core.Path.{◌≡◌, refl}
use mathlib.Core.Bool.{true}
use native.Mathlib.Nat.{mul-one, mul-le-mul_right}
use native.Mathlib.Omega.{arith}
use lib.Dec.{lit<}
use Rattle.pair.specs.Pairs.{◌to◌}
use Rattle.pair.specs.Fits.{minus_fits}
use Rattle.pair.specs.Enclosure.{Inside, AtMost}
use Rattle.pair.specs.declared.Pair.{Pair}
use Rattle.pair.proofs.Laws.{minus_out, ratio-Ordered, ratio-exact, exact-AtMost}
use Rattle.section.specs.declared.Sheet.{Sheet}
use Rattle.section.specs.Sound.{Question2, Sound}
use Rattle.section.specs.Working.{scale_of, constant, units, mm}
use Rattle.section.specs.Parts.{Fine}
use Rattle.section.specs.Uncut.{NotCut, Uncut, QuestionsUncut}
use Rattle.section.proofs.Ends.{one-Fine, constant-Inside}
use Rattle.section.proofs.Formulas.{taken_off-Inside, half_inside, mid_line-Inside}
use Rattle.section.proofs.Whole.{SheetDivisors, sheet_rounds_inside, sheet_kept_inside, sheet_full_inside}
use Rattle.section.proofs.SheetNumbers.{section_numbers}
use Rattle.section.proofs.SizesOfStiffeners.{centre_room}
use Rattle.section.proofs.SizesOfSheets.{bp₁_box, bp₂_box, sheet_rounds_box, fine_divisors}
use Rattle.section.proofs.SheetRooms.{sheet_room}

fits_uncut : (p q : Pair) → minus_fits p q ≡ true → NotCut p q
fits_uncut p q e = record { low = (minus_out p q e).0; high = (minus_out p q e).1 }

finer_uncut : {m : ℕ} {P p Q q : Pair} → Inside m P p → Inside m Q q → NotCut p q → NotCut P Q
finer_uncut {m} {P} {p} {Q} {q} i j c =
    let apart : Q.hi ≤ P.lo = omega (arith, i.low, j.high, mul-le-mul_right m c.low) in
    record { low = apart; high = omega (arith, apart, i.mid, j.mid) }

-- past 0.35, at any scale
k_uncut : (n x : ℕ) → units n 35 100 < x → NotCut (x to x) (constant n 35 100)
k_uncut n x h =
    let most : AtMost (n * 350000) (constant n 35 100) = rw (ratio-exact (scale_of n) 35 100 (n * 350000) (lit< tt) (omega arith)) (exact-AtMost (n * 350000)) in
    record { low = omega (arith, most.high); high = omega (arith, most.high, (ratio-Ordered (scale_of n) 35 100).ends) }

-- at a scale where every operation has room
pub Fine-Uncut : {n : ℕ} {q : Sheet} → Fine n → Sound q → Uncut n q
Fine-Uncut {n} {q} f s =
    let room = sheet_room f s in
    record {
      hp = fits_uncut _ _ room.hp.less;
      bp₁ = fits_uncut _ _ room.bp₁.less;
      bp₂ = fits_uncut _ _ room.bp₂.less;
      cp = fits_uncut _ _ room.cp.less;
      ρ_plane = λ u h. omega arith;
      ρ_lip = λ u h. omega arith;
      k = k_uncut n;
      g₁ = λ i. fits_uncut _ _ (centre_room n f (section_numbers s).one (sheet_rounds_box s f i).one.stiffener (bp₁_box s f)).less;
      g₂ = λ i. fits_uncut _ _ (centre_room n f (section_numbers s).two (sheet_rounds_box s f i).two.stiffener (bp₂_box s f)).less;
      χ = λ u h. omega arith;
      effective_web = fits_uncut _ _ room.axis.moment_room.web.far.less;
      full_web = fits_uncut _ _ room.gross.moment_room.web.far.less;
    }

-- at m times a scale
pub Uncut-finer : {n m : ℕ} (q : Sheet) → 0 < n → 0 < m → SheetDivisors n q → Uncut n q → Uncut (m * n) q
Uncut-finer {n} {m} q n⁺ m⁺ d c =
    let mm_in : (v : ℕ) → Inside m (mm (m * n) v) (mm n v) = λ v. constant-Inside n⁺ m⁺ v 100 (lit< tt) refl in
    record {
      hp = finer_uncut (mm_in _) (mm_in _) c.hp;
      bp₁ = finer_uncut (mm_in _) (mm_in _) c.bp₁;
      bp₂ = finer_uncut (mm_in _) (mm_in _) c.bp₂;
      cp = finer_uncut (mm_in _) (half_inside n⁺ m⁺ (mm_in _)) c.cp;
      ρ_plane = λ u h. omega arith;
      ρ_lip = λ u h. omega arith;
      k = k_uncut (m * n);
      g₁ = λ i. finer_uncut (mid_line-Inside n⁺ m⁺ _ _) (taken_off-Inside n⁺ m⁺ (d.each i).one.a (sheet_rounds_inside n⁺ m⁺ q d i).one.stiffener) (c.g₁ i);
      g₂ = λ i. finer_uncut (mid_line-Inside n⁺ m⁺ _ _) (taken_off-Inside n⁺ m⁺ (d.each i).two.a (sheet_rounds_inside n⁺ m⁺ q d i).two.stiffener) (c.g₂ i);
      χ = λ u h. omega arith;
      effective_web = finer_uncut (mid_line-Inside n⁺ m⁺ _ _) (half_inside n⁺ m⁺ (sheet_kept_inside n⁺ m⁺ q d).m) c.effective_web;
      full_web = finer_uncut (mid_line-Inside n⁺ m⁺ _ _) (half_inside n⁺ m⁺ (sheet_full_inside n⁺ m⁺ q d).m) c.full_web;
    }

pub uncut : {n : ℕ} (q : Sheet) → 0 < n → Sound q → Uncut n q
uncut {n} q n⁺ s = rw (mul-one n) at (Uncut-finer {n = 1} q (lit< tt) n⁺ (fine_divisors s one-Fine) (Fine-Uncut one-Fine s))

-- in the questions, by the ranges of b, c and tnom
pub questions_uncut : (q : Sheet) → Question2 q → QuestionsUncut q
questions_uncut q r = record { bp₁ = omega arith; bp₂ = omega arith; cp = omega arith }
