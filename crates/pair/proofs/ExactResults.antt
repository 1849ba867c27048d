-- The enclosure promises for pairs, continued: an exact result of values between the operands' ends lies between the result's ends.
-- Values are fractions over any multiple m × s of the scale s; the exact result is a fraction over a further multiple of s.
use Prim.Native.Nat.{ℕ, ◌+◌, ◌-◌, ◌*◌, ◌/◌, ◌<◌, min}
use native.Mathlib.Nat.{le_refl, le_trans, mul-le-mul, mul-le-mul_left, mul-le-mul_right, div-mul-le_self}
use native.Mathlib.Omega.{arith}
use Rattle.pair.specs.Pairs.{exact, plus, minus, times, over, root, cube_root, smaller}
use Rattle.pair.specs.Enclosure.{Between, RootBetween, Positive}
use Rattle.pair.specs.declared.Pair.{Pair}
use Rattle.pair.proofs.Quotients.{le_ceil, sub-mul, min_down, min_up}
use Rattle.pair.proofs.Powers.{down_is_root, le_up}

pub exact-Between : (m v : ℕ) → Between m (v * m) (exact v)
unfolding exact
exact-Between m v = record { low = le_refl _; high = le_refl _ }

pub plus-Between : {m x y : ℕ} {p q : Pair} → Between m x p → Between m y q → Between m (x + y) (plus p q)
unfolding plus
plus-Between i j = omega arith

pub minus-Between : {m x y : ℕ} {p q : Pair} → Between m x p → Between m y q → Between m (x - y) (minus p q)
unfolding minus
minus-Between i j = record { low = rw sub-mul (omega arith); high = rw sub-mul (omega arith) }

-- (x ÷ (m × s)) × (y ÷ (m × s)) is x × y over m × (m × s) times s
pub times-Between : {m x y : ℕ} {p q : Pair} (s : ℕ) → 0 < s → Between m x p → Between m y q → Between (m * (m * s)) (x * y) (times s p q)
unfolding times
times-Between {m} {x} {y} {p} {q} s h i j = record {
  low = omega (arith, mul-le-mul_right (m * m) (div-mul-le_self (p.lo * q.lo) s), mul-le-mul i.low j.low);
  high = omega (arith, mul-le-mul_right (m * m) (le_ceil {n = p.hi * q.hi} h), mul-le-mul i.high j.high);
}

-- (x ÷ (m × s)) ÷ (y ÷ (m × s)) is x × s over y times s
pub over-Between : {m x y : ℕ} {p q : Pair} (s : ℕ) → Positive q → Between m x p → Between m y q → Between y (x * s) (over s p q)
unfolding over
over-Between {m} {x} {y} {p} {q} s z i j = record {
  low =
      le_trans (mul-le-mul_left (p.lo * s / q.hi) j.high)
      (omega (arith, mul-le-mul_right m (div-mul-le_self (p.lo * s) q.hi), mul-le-mul_right s i.low));
  high =
      le_trans (omega (arith, mul-le-mul_right m (le_ceil {n = p.hi * s} z.low), mul-le-mul_right s i.high))
      (mul-le-mul_left _ j.low);
}

-- the root of x ÷ (m × s), which is x × s ÷ (m × s ^ 2)
pub root_between : {m x : ℕ} {p : Pair} (s : ℕ) → Between m x p → RootBetween 2 m (x * s) (root s p)
unfolding root
root_between {m} {x} {p} s i = record {
  low = omega (arith, mul-le-mul_right m (down_is_root 1 (p.lo * s)).low, mul-le-mul_right s i.low);
  high = omega (arith, mul-le-mul_right m (le_up 1 (p.hi * s)), mul-le-mul_right s i.high);
}

pub cube_root-Between : {m x : ℕ} {p : Pair} (s : ℕ) → Between m x p → RootBetween 3 m (x * (s * s)) (cube_root s p)
unfolding cube_root
cube_root-Between {m} {x} {p} s i = record {
  low = omega (arith, mul-le-mul_right m (down_is_root 2 (p.lo * (s * s))).low, mul-le-mul_right (s * s) i.low);
  high = omega (arith, mul-le-mul_right m (le_up 2 (p.hi * (s * s))), mul-le-mul_right (s * s) i.high);
}

pub smaller-Between : {m x y : ℕ} {p q : Pair} → Between m x p → Between m y q → Between m (min x y) (smaller p q)
unfolding smaller
smaller-Between {m} {x} {y} {p} {q} i j = record {
  low = min_down p.lo q.lo x y m i.low j.low;
  high = min_up p.hi q.hi x y m i.high j.high;
}
