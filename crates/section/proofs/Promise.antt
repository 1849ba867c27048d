-- Demand 3: what is printed at a fineness n holds of the working at every m × n.
use Prim.Native.Nat.{ℕ, ◌+◌, ◌*◌, ◌/◌, ◌≤◌, ◌<◌}
use mathlib.Core.Path.{◌≡◌}
use native.Mathlib.Nat.{mul-pos, mul-le-mul_right, div-mul-le_self, lt-div-mul-add}
use native.Mathlib.Omega.{arith}
use lib.IntN.{ℤ, pos, ◌*ℤ◌}
use Rattle.pair.specs.Integers.{◌≼ℤ◌, floor_over, ceil_over}
use Rattle.pair.specs.SignedPairs.{SignedPair}
use Rattle.pair.specs.Enclosure.{Between, SignedBetween}
use Rattle.pair.specs.declared.Pair.{Pair}
use Rattle.pair.proofs.Numbers.{le_trans_ℤ, scaled_le, scaled_swap}
use Rattle.pair.proofs.Laws.{floor_scaled, ceil_scaled, low_between, high_between, low_between_ℤ, high_between_ℤ}
use Rattle.section.specs.declared.Sheet.{Sheet}
use Rattle.section.specs.Working.{scale_of, worked}
use Rattle.section.specs.Figures.{printed, figures, Question11, WithinPrinted}
use Rattle.section.specs.Nested.{WorkedInside}
use Rattle.section.proofs.Ends.{scale_positive}
use Rattle.section.proofs.Whole.{SheetDivisors, worked_inside}

module _ {n m : ℕ} (n⁺ : 0 < n) (m⁺ : 0 < m) where
  fine_scale : scale_of (m * n) ≡ scale_of n * m
  fine_scale = omega arith

  -- an area of x units of 1/S at m × n, between the ends of p at n
  module _ {x : ℕ} {p : Pair} (b : Between m x p) where
    area_low : p.lo * 100 / scale_of n * scale_of (m * n) ≤ x * 100
    area_low = omega (arith, mul-le-mul_right m (div-mul-le_self (p.lo * 100) (scale_of n)))

    area_high : (limit : ℕ) → p.hi * 100 ≤ limit * scale_of n → x * 100 ≤ limit * scale_of (m * n)
    area_high limit h = omega (arith, mul-le-mul_right m h)

    axial_low : (fyb gm0 : ℕ) → p.lo * fyb * 1000 / (gm0 * scale_of n) * (gm0 * scale_of (m * n)) ≤ x * fyb * 1000
    axial_low fyb gm0 = omega (arith, mul-le-mul_right m (div-mul-le_self (p.lo * fyb * 1000) (gm0 * scale_of n)), mul-le-mul_right fyb b.low)

    -- the ends of p lie at most `allow` apart, since the printed area is at most the lower one
    axial_high : (allow fyb gm0 : ℕ) → 0 < gm0 → p.hi * 100 ≤ (p.lo * 100 / scale_of n + allow) * scale_of n
        → x * fyb * 1000 < ((p.lo * fyb * 1000 / (gm0 * scale_of n) + 1) * gm0 + 10 * allow * fyb) * scale_of (m * n)
    axial_high allow fyb gm0 gm0⁺ h =
        let wide : p.hi * 100 ≤ p.lo * 100 + allow * scale_of n = omega (arith, div-mul-le_self (p.lo * 100) (scale_of n)) in
        let next = lt-div-mul-add {a = p.lo * fyb * 1000} {b = gm0 * scale_of n} (mul-pos gm0⁺ (scale_positive n⁺)) in
        omega (arith, m⁺, mul-le-mul_right fyb b.high, mul-le-mul_right (fyb * m) wide, mul-le-mul_right m next)

  -- a shift of x units of 1/S at m × n, between the ends of a at n
  module _ {x : ℤ} {a : SignedPair} (b : SignedBetween m x a) where
    shift_low : floor_over (a.lo *ℤ pos 100) (scale_of n) *ℤ pos (scale_of (m * n)) ≼ℤ x *ℤ pos 100
    shift_low = rw fine_scale (le_trans_ℤ (floor_scaled (a.lo *ℤ pos 100) m (scale_positive n⁺)) (rw (scaled_swap a.lo 100 m) (scaled_le 100 b.low)))

    shift_high : x *ℤ pos 100 ≼ℤ ceil_over (a.hi *ℤ pos 100) (scale_of n) *ℤ pos (scale_of (m * n))
    shift_high = rw fine_scale (le_trans_ℤ (rw (scaled_swap a.hi 100 m) (scaled_le 100 b.high)) (ceil_scaled (a.hi *ℤ pos 100) m (scale_positive n⁺)))

  pub promise : (q : Sheet) → 0 < q.gm0 → Question11 n q → WorkedInside m (worked (m * n) q) (worked n q) → WithinPrinted (m * n) (figures n q) q.allow q.fyb q.gm0 (worked (m * n) q)
  unfolding figures printed
  promise q gm0⁺ ok i =
      let lower = low_between i.area in
      let upper = high_between i.area in
      let left = low_between_ℤ i.shift in
      let right = high_between_ℤ i.shift in
      record {
        lower_area_low = area_low lower;
        lower_area_high = area_high lower _ ok.allowed;
        upper_area_low = area_low upper;
        upper_area_high = area_high upper _ ok.allowed;
        lower_axial_low = axial_low lower q.fyb q.gm0;
        lower_axial_high = axial_high lower q.allow q.fyb q.gm0 gm0⁺ ok.allowed;
        upper_axial_low = axial_low upper q.fyb q.gm0;
        upper_axial_high = axial_high upper q.allow q.fyb q.gm0 gm0⁺ ok.allowed;
        lower_shift_low = shift_low left;
        lower_shift_high = shift_high left;
        upper_shift_low = shift_low right;
        upper_shift_high = shift_high right;
      }

  -- so where nothing that the working at n divides by may be zero
  pub held : (q : Sheet) → 0 < q.gm0 → SheetDivisors n q → Question11 n q → WithinPrinted (m * n) (figures n q) q.allow q.fyb q.gm0 (worked (m * n) q)
  held q gm0⁺ d ok = promise q gm0⁺ ok (worked_inside n⁺ m⁺ q d)
