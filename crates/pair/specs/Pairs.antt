-- A value is a pair of whole numbers, a lower and an upper end, in units of 1/s, s being the scale. (docs/WORKING.md, 3.)
-- Each operation uses the ends that make the result smallest for the lower end and largest for the upper,
-- then rounds the lower down and the upper up to a whole unit.
use Rattle.std.specs.Prelude.{ℕ, ◌+◌, ◌-◌, ◌*◌, ◌/◌, min}
use Rattle.pair.specs.Rounding.{ceil_div, root_down, root_up}
use Rattle.pair.specs.declared.Pair.{Pair}

infix 5 ◌to◌
abbrev pub ◌to◌ : ℕ → ℕ → Pair
a to b = record { lo = a; hi = b }

-- sheet numbers and written constants are exact: both ends equal
unfoldable pub exact : ℕ → Pair
exact v = v to v

-- the exact value a ÷ b, where b divides a × s
unfoldable pub ratio : ℕ → ℕ → ℕ → Pair
ratio s a b = exact (a * s / b)

unfoldable pub plus : Pair → Pair → Pair
plus p q = (p.lo + q.lo) to (p.hi + q.hi)

-- no part of a difference lies below zero where q.hi ≤ p.lo; `difference` of SignedPairs is the one that may
unfoldable pub minus : Pair → Pair → Pair
minus p q = (p.lo - q.hi) to (p.hi - q.lo)

unfoldable pub times : ℕ → Pair → Pair → Pair
times s p q = (p.lo * q.lo / s) to ceil_div (p.hi * q.hi) s

unfoldable pub over : ℕ → Pair → Pair → Pair
over s p q = (p.lo * s / q.hi) to ceil_div (p.hi * s) q.lo

unfoldable pub root : ℕ → Pair → Pair
root s p = root_down 2 (p.lo * s) to root_up 2 (p.hi * s)

unfoldable pub cube_root : ℕ → Pair → Pair
cube_root s p = root_down 3 (p.lo * (s * s)) to root_up 3 (p.hi * (s * s))

-- the smaller of two values, end by end
unfoldable pub smaller : Pair → Pair → Pair
smaller p q = min p.lo q.lo to min p.hi q.hi
