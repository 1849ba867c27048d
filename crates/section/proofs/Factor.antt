-- χ, the thickness factor: a finer χ lies inside a coarser one, also across the jump at 1.38, and it is at most 1.
use Prim.Native.Nat.{ℕ, min, max, ◌-◌, ◌*◌, ◌/◌, ◌≤◌, ◌<◌}
use mathlib.Core.Path.{◌≡◌, refl}
use mathlib.Core.Bool.{Bool, true, false, cond}
use native.Mathlib.Nat.{le_refl, le_trans, mul_assoc, mul-one, mul-pos, mul-le-mul_left, mul-le-mul_right, min-le_left, max-le}
use native.Mathlib.Omega.{arith}
use borrow.Author.Tests.{leb-true, ltb-true, ltb-false}
use lib.Dec.{leb, ltb, lit<}
use Rattle.pair.specs.Rounding.{ceil_div}
use Rattle.pair.specs.Pairs.{◌to◌}
use Rattle.pair.specs.Enclosure.{Inside, NotAbove}
use Rattle.pair.specs.declared.Pair.{Pair}
use Rattle.pair.proofs.Numbers.{cross_down, cross_up, cross_mid, ceil_le, le_ceil, sub-mul, pos_left}
use Rattle.pair.proofs.Laws.{box_wider}
use Rattle.section.specs.Working.{scale_of, whole, units, χ, χ_before, χ_from}
use Rattle.section.proofs.Ends.{every_constant_exact, units_finer, fixed_min_down, fixed_min_up, min_left, min_right, max_left, max_right}

-- 1.38, where the rule jumps; 0.47226, to which it falls there, and 0.66/1.38, to which it jumps up
abbrev edge : ℕ → ℕ
edge n = units n 138 100

abbrev falls_to : ℕ → ℕ
falls_to n = units n 47226 100000

abbrev jumps_to : ℕ → ℕ
jumps_to n = ceil_div (66 * scale_of n) 138

-- the line 1.47 − 0.723 × ud, in thousandths of a unit
abbrev line : ℕ → ℕ → ℕ
line n u = 1470 * scale_of n - 723 * u

-- up to 0.65 the line is above 1, so the test changes nothing
line_down : (n u : ℕ) → χ_before n ◌/◌ u ≡ min (scale_of n) (line n u / 1000)
unfolding χ_before
line_down n u = by_outcome (leb u (units n 65 100)) refl
  where
    by_outcome : (b : Bool) → leb u (units n 65 100) ≡ b → cond b (scale_of n) (min (scale_of n) (line n u / 1000)) ≡ min (scale_of n) (line n u / 1000)
    by_outcome true e = omega (arith, leb-true u (units n 65 100) e)
    by_outcome false e = refl

line_up : (n u : ℕ) → χ_before n ceil_div u ≡ min (scale_of n) (ceil_div (line n u) 1000)
unfolding χ_before
line_up n u = by_outcome (leb u (units n 65 100)) refl
  where
    by_outcome : (b : Bool) → leb u (units n 65 100) ≡ b → cond b (scale_of n) (min (scale_of n) (ceil_div (line n u) 1000)) ≡ min (scale_of n) (ceil_div (line n u) 1000)
    by_outcome true e = omega (arith, leb-true u (units n 65 100) e, le_ceil {n = line n u} {d = 1000} (lit< tt))
    by_outcome false e = refl

module _ (n : ℕ) (n⁺ : 0 < n) (m : ℕ) (m⁺ : 0 < m) where
  mn⁺ : 0 < m * n
  mn⁺ = mul-pos m⁺ n⁺

  -- below 1.38

  before_low : (b B : ℕ) → B ≤ b * m → χ_before n ◌/◌ b * m ≤ χ_before (m * n) ◌/◌ B
  before_low b B h =
      rw (line_down n b, line_down (m * n) B, mul_assoc m n 1000000)
      (fixed_min_down (scale_of n) (line n b / 1000) _ m (cross_down (line n b) 1000 _ 1000 m (lit< tt) (lit< tt) (mul-le-mul_right 1000 (rw sub-mul (omega arith)))))

  before_high : (a A : ℕ) → a * m ≤ A → χ_before (m * n) ceil_div A ≤ χ_before n ceil_div a * m
  before_high a A h =
      rw (line_up n a, line_up (m * n) A, mul_assoc m n 1000000)
      (fixed_min_up (scale_of n) (ceil_div (line n a) 1000) _ m (cross_up (line n a) 1000 _ 1000 m (lit< tt) (lit< tt) (mul-le-mul_right 1000 (rw sub-mul (omega arith)))))

  before_mid : (A B : ℕ) → A ≤ B → χ_before (m * n) ◌/◌ B ≤ χ_before (m * n) ceil_div A
  before_mid A B h =
      rw (line_down (m * n) B, line_up (m * n) A)
      (omega (arith, cross_mid (line (m * n) B) 1000 (line (m * n) A) 1000 (lit< tt) (lit< tt) (mul-le-mul_right 1000 (omega arith))))

  -- just below 1.38 it is above 0.47226
  before_least : (B : ℕ) → B < edge (m * n) → falls_to n * m ≤ χ_before (m * n) ◌/◌ B
  before_least B h = rw (line_down (m * n) B, ← (units_finer m n 47226 100000 refl)) (omega arith)

  -- from 1.38

  from_low : (b B : ℕ) → 0 < B → B ≤ b * m → χ_from n ◌/◌ b * m ≤ χ_from (m * n) ◌/◌ B
  unfolding χ_from
  from_low b B p h =
      cross_down (66 * (scale_of n * scale_of n)) (100 * b) (66 * (scale_of (m * n) * scale_of (m * n))) (100 * B) m
      (omega (arith, pos_left b m (omega arith))) (omega arith) (omega (arith, mul-le-mul_left (m * n * n) h))

  from_high : (a A : ℕ) → 0 < a → a * m ≤ A → χ_from (m * n) ceil_div A ≤ χ_from n ceil_div a * m
  unfolding χ_from
  from_high a A p h =
      cross_up (66 * (scale_of n * scale_of n)) (100 * a) (66 * (scale_of (m * n) * scale_of (m * n))) (100 * A) m
      (omega arith) (omega (arith, mul-pos p m⁺)) (omega (arith, mul-le-mul_left (m * n * n) h))

  from_mid : (A B : ℕ) → 0 < A → A ≤ B → χ_from (m * n) ◌/◌ B ≤ χ_from (m * n) ceil_div A
  unfolding χ_from
  from_mid A B p h = cross_mid _ _ _ _ (omega arith) (omega arith) (omega (arith, mul-le-mul_left (66 * (scale_of (m * n) * scale_of (m * n))) h))

  -- what the rule jumps to at 1.38

  jump_high : (A : ℕ) → edge (m * n) ≤ A → χ_from (m * n) ceil_div A ≤ jumps_to n * m
  unfolding χ_from
  jump_high A h =
      let edge : 1380000 * (m * n) ≤ A = omega arith in
      cross_up (66 * scale_of n) 138 (66 * (scale_of (m * n) * scale_of (m * n))) (100 * A) m (lit< tt) (omega (arith, mn⁺)) (omega (arith, mul-le-mul_left (m * n) edge))

  jump_up : jumps_to (m * n) ≤ jumps_to n * m
  jump_up = cross_up (66 * scale_of n) 138 (66 * scale_of (m * n)) 138 m (lit< tt) (lit< tt) (omega arith)

  jump_mid : falls_to (m * n) ≤ jumps_to (m * n)
  jump_mid = omega (arith, le_ceil {n = 66 * scale_of (m * n)} {d = 138} (lit< tt))

  past : {A : ℕ} → edge (m * n) ≤ A → 0 < A
  past h = omega (arith, mn⁺)

  χ_ends : (a b A B : ℕ) → Inside m (A to B) (a to b) → Inside m (χ (m * n) (A to B)) (χ n (a to b))
  unfolding χ
  χ_ends a b A B i = by_outcome (ltb b (edge n)) (ltb a (edge n)) (ltb B (edge (m * n))) (ltb A (edge (m * n))) refl refl refl refl
    where
      by_outcome : (p q P Q : Bool) → ltb b (edge n) ≡ p → ltb a (edge n) ≡ q → ltb B (edge (m * n)) ≡ P → ltb A (edge (m * n)) ≡ Q
          → Inside m
          (cond P (χ_before (m * n) ◌/◌ B to χ_before (m * n) ceil_div A)
          (cond Q (min (falls_to (m * n)) (χ_from (m * n) ◌/◌ B) to max (jumps_to (m * n)) (χ_before (m * n) ceil_div A))
          (χ_from (m * n) ◌/◌ B to χ_from (m * n) ceil_div A)))
          (cond p (χ_before n ◌/◌ b to χ_before n ceil_div a)
          (cond q (min (falls_to n) (χ_from n ◌/◌ b) to max (jumps_to n) (χ_before n ceil_div a))
          (χ_from n ◌/◌ b to χ_from n ceil_div a)))
      by_outcome true q true Q e f g h = record { low = before_low b B i.high; mid = before_mid A B i.mid; high = before_high a A i.low }
      by_outcome true q false Q e f g h = absurd (omega (arith, units_finer m n 138 100 refl, mul-le-mul_right m (ltb-true b (edge n) e), ltb-false B (edge (m * n)) g, i.high))
      by_outcome false true true Q e f g h =
          record {
            low = le_trans (min_left (falls_to n) (χ_from n ◌/◌ b) m) (before_least B (ltb-true B (edge (m * n)) g));
            mid = before_mid A B i.mid;
            high = le_trans (before_high a A i.low) (max_right (jumps_to n) (χ_before n ceil_div a) m);
          }
      by_outcome false true false true e f g h =
          record {
            low =
                omega (
                  arith,
                  units_finer m n 47226 100000 refl,
                  min_left (falls_to n) (χ_from n ◌/◌ b) m,
                  min_right (falls_to n) (χ_from n ◌/◌ b) m,
                  from_low b B (past (ltb-false B (edge (m * n)) g)) i.high,
                );
            mid = omega (arith, jump_mid);
            high = omega (arith, jump_up, before_high a A i.low, max_left (jumps_to n) (χ_before n ceil_div a) m, max_right (jumps_to n) (χ_before n ceil_div a) m);
          }
      by_outcome false true false false e f g h =
          let k : edge (m * n) ≤ A = ltb-false A (edge (m * n)) h in
          record {
            low = le_trans (min_right (falls_to n) (χ_from n ◌/◌ b) m) (from_low b B (le_trans (past k) i.mid) i.high);
            mid = from_mid A B (past k) i.mid;
            high = le_trans (jump_high A k) (max_left (jumps_to n) (χ_before n ceil_div a) m);
          }
      by_outcome false false true Q e f g h = absurd (omega (arith, units_finer m n 138 100 refl, mul-le-mul_right m (ltb-false a (edge n) f), ltb-true B (edge (m * n)) g, i.low, i.mid))
      by_outcome false false false true e f g h = absurd (omega (arith, units_finer m n 138 100 refl, mul-le-mul_right m (ltb-false a (edge n) f), ltb-true A (edge (m * n)) h, i.low))
      by_outcome false false false false e f g h =
          let k : edge (m * n) ≤ A = ltb-false A (edge (m * n)) h in
          record {
            low = from_low b B (le_trans (past k) i.mid) i.high;
            mid = from_mid A B (past k) i.mid;
            high = from_high a A (omega (arith, n⁺, ltb-false a (edge n) f)) i.low;
          }

pub χ-Inside : {n m : ℕ} {U u : Pair} → 0 < n → 0 < m → Inside m U u → Inside m (χ (m * n) U) (χ n u)
χ-Inside {n} {m} {U} {u} n⁺ m⁺ i = χ_ends n n⁺ m m⁺ u.lo u.hi U.lo U.hi i

-- χ is at most 1, at both ends

before_most : (n u : ℕ) → (χ_before n ◌/◌ u ≤ scale_of n) × (χ_before n ceil_div u ≤ scale_of n)
before_most n u = (rw (line_down n u) (min-le_left _ _), rw (line_up n u) (min-le_left _ _))

from_most : (n u : ℕ) → 0 < n → edge n ≤ u → (χ_from n ◌/◌ u ≤ scale_of n) × (χ_from n ceil_div u ≤ scale_of n)
unfolding χ_from
from_most n u n⁺ h =
    let edge : 1380000 * n ≤ u = omega arith in
    let up = ceil_le {n = 66 * (scale_of n * scale_of n)} {d = 100 * u} {x = scale_of n} (omega arith) (omega (arith, mul-le-mul_left n edge)) in
    (le_trans (cross_mid (66 * (scale_of n * scale_of n)) (100 * u) (66 * (scale_of n * scale_of n)) (100 * u) (omega arith) (omega arith) (le_refl _)) up, up)

pub χ_most : (n : ℕ) (u : Pair) → 0 < n → NotAbove (χ n u) (scale_of n to scale_of n)
unfolding χ
χ_most n u n⁺ = by_outcome (ltb u.hi (edge n)) (ltb u.lo (edge n)) refl refl
  where
    by_outcome : (p q : Bool) → ltb u.hi (edge n) ≡ p → ltb u.lo (edge n) ≡ q
        → NotAbove
        (cond p (χ_before n ◌/◌ u.hi to χ_before n ceil_div u.lo)
        (cond q (min (falls_to n) (χ_from n ◌/◌ u.hi) to max (jumps_to n) (χ_before n ceil_div u.lo))
        (χ_from n ◌/◌ u.hi to χ_from n ceil_div u.lo)))
        (scale_of n to scale_of n)
    by_outcome true q e f = record { low = (before_most n u.hi).0; high = (before_most n u.lo).1 }
    by_outcome false true e f =
        record { low = le_trans (min-le_left _ _) (omega arith); high = max-le (ceil_le (lit< tt) (omega arith)) (before_most n u.lo).1 }
    by_outcome false false e f =
        record { low = (from_most n u.hi n⁺ (ltb-false u.hi (edge n) e)).0; high = (from_most n u.lo n⁺ (ltb-false u.lo (edge n) f)).1 }

pub χ-NotAbove-one : (n : ℕ) (u : Pair) → 0 < n → NotAbove (χ n u) (whole n 1)
χ-NotAbove-one n u n⁺ =
    let most = χ_most n u n⁺ in
    let one = (every_constant_exact n⁺).wholes 1 in
    record { low = omega (arith, most.low, one.low); high = omega (arith, most.high, one.high) }

-- a box, in millionths
pub χ_box : {n a b : ℕ} {U : Pair} → 0 < n → Inside n U (a to b) → Inside n (χ n U) (0 to 1000000)
χ_box {n} {a} {b} n⁺ i = box_wider 0 1000000 (rw (mul-one n) at (χ-Inside {n = 1} (lit< tt) n⁺ i)) (record { low = omega arith }) (record { high = (χ_most 1 (a to b) (lit< tt)).high })
