-- Pairs whose ends are integers, in units of 1/s: for differences that may lie below zero.
-- The same rule as in Pairs: the ends that make the result smallest and largest, then rounded toward minus and plus infinity.
use Rattle.std.specs.Prelude.{ℕ, max, ℤ, pos, nat_abs, neg_ℤ, ◌+ℤ◌, ◌-ℤ◌, ◌*ℤ◌}
use Rattle.pair.specs.Integers.{least, greatest, floor_over, ceil_over}
use Rattle.pair.specs.declared.Pair.{Pair}

pub record SignedPair : Type 0 where
  pub lo : ℤ
  pub hi : ℤ

infix 5 ◌upto◌
abbrev pub ◌upto◌ : ℤ → ℤ → SignedPair
a upto b = record { lo = a; hi = b }

-- a pair, none of which is below zero
unfoldable pub signed : Pair → SignedPair
signed p = pos p.lo upto pos p.hi

-- −a: the ends change places
unfoldable pub opposite : SignedPair → SignedPair
opposite a = neg_ℤ a.hi upto neg_ℤ a.lo

-- p − q
unfoldable pub difference : Pair → Pair → SignedPair
difference p q = (pos p.lo -ℤ pos q.hi) upto (pos p.hi -ℤ pos q.lo)

unfoldable pub signed_plus : SignedPair → SignedPair → SignedPair
signed_plus a b = (a.lo +ℤ b.lo) upto (a.hi +ℤ b.hi)

unfoldable pub signed_minus : SignedPair → SignedPair → SignedPair
signed_minus a b = (a.lo -ℤ b.hi) upto (a.hi -ℤ b.lo)

-- the least and the greatest product of an end of a and an end of b
unfoldable pub least_product : SignedPair → SignedPair → ℤ
least_product a b = least (least (a.lo *ℤ b.lo) (a.lo *ℤ b.hi)) (least (a.hi *ℤ b.lo) (a.hi *ℤ b.hi))

unfoldable pub greatest_product : SignedPair → SignedPair → ℤ
greatest_product a b = greatest (greatest (a.lo *ℤ b.lo) (a.lo *ℤ b.hi)) (greatest (a.hi *ℤ b.lo) (a.hi *ℤ b.hi))

unfoldable pub signed_times : ℕ → SignedPair → SignedPair → SignedPair
signed_times s a b = floor_over (least_product a b) s upto ceil_over (greatest_product a b) s

-- by a pair above zero: its smaller end makes the quotient largest in size
unfoldable pub signed_over : ℕ → SignedPair → Pair → SignedPair
signed_over s a q =
    least (floor_over (a.lo *ℤ pos s) q.lo) (floor_over (a.lo *ℤ pos s) q.hi)
    upto greatest (ceil_over (a.hi *ℤ pos s) q.lo) (ceil_over (a.hi *ℤ pos s) q.hi)

-- the ends in a unit k times as large, the lower rounded toward minus infinity and the upper toward plus infinity
unfoldable pub coarser : ℕ → SignedPair → SignedPair
coarser k a = floor_over a.lo k upto ceil_over a.hi k

-- how far from zero an end lies
unfoldable pub reach : SignedPair → ℕ
reach a = max (nat_abs a.lo) (nat_abs a.hi)
