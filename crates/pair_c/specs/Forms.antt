-- What the structs of integers and signed pairs that cross C stand for, and the one form in which they are returned.
use Rattle.std.specs.Prelude.{suc, true, false, cond, ℤ, pos, negsuc, neg_ℤ}
use Rattle.pair.specs.SignedPairs.{SignedPair, ◌upto◌}
use Rattle.pair_c.specs.declared.signed.Integer.{Integer}
use Rattle.pair_c.specs.declared.signed.Signed.{Signed}

-- the integer that the struct stands for: its size, below zero or not
unfoldable pub integer : Integer → ℤ
integer z = cond z.below (neg_ℤ (pos z.size)) (pos z.size)

-- the signed pair that the struct stands for
unfoldable pub meaning : Signed → SignedPair
meaning a = integer a.lo upto integer a.hi

-- the one form in which an integer is returned, and a signed pair: zero is not below zero
unfoldable pub plain : ℤ → Integer
plain (pos n) = record { below = false; size = n }
plain (negsuc n) = record { below = true; size = suc n }

unfoldable pub plain_pair : SignedPair → Signed
plain_pair a = record { lo = plain a.lo; hi = plain a.hi }
