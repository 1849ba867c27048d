-- What each operation asks of its operands, as one test: divisors are above zero, and both ends of the result are numbers of 64 bits.
use Rattle.std.specs.Prelude.{Bool, ◌&&◌, ℕ, ◌+◌, ◌*◌, ◌%◌, ◌^◌, leb, ltb, eqb}
use Rattle.pair.specs.Rounding.{ceil_div}
use Rattle.pair.specs.Pairs.{plus, times, over, ratio}
use Rattle.pair.specs.Integers.{leb_ℤ}
use Rattle.pair.specs.SignedPairs.{SignedPair, reach}
use Rattle.pair.specs.declared.Pair.{Pair}

unfoldable pub word : ℕ → Bool
word n = ltb n (2 ^ 64)

unfoldable pub words : Pair → Bool
words p = word p.lo && word p.hi

unfoldable pub ordered : Pair → Bool
ordered p = leb p.lo p.hi

unfoldable pub plus_fits : Pair → Pair → Bool
plus_fits p q = words (plus p q)

-- nothing is cut at zero
unfoldable pub minus_fits : Pair → Pair → Bool
minus_fits p q = leb q.hi p.lo && leb q.lo p.hi

unfoldable pub times_fits : ℕ → Pair → Pair → Bool
times_fits s p q = ltb 0 s && words (times s p q)

unfoldable pub over_fits : ℕ → Pair → Pair → Bool
over_fits s p q = ltb 0 q.lo && ltb 0 q.hi && words (over s p q)

-- the exact value a ÷ b is a whole number of units
unfoldable pub exact_ratio : ℕ → ℕ → ℕ → Bool
exact_ratio s a b = ltb 0 s && ltb 0 b && eqb (a * s % b) 0

unfoldable pub ratio_fits : ℕ → ℕ → ℕ → Bool
ratio_fits s a b = ltb 0 b && word (a * s)

unfoldable pub times_ratio_fits : ℕ → Pair → ℕ → ℕ → Bool
times_ratio_fits s p a b = exact_ratio s a b && times_fits s p (ratio s a b)

unfoldable pub over_ratio_fits : ℕ → Pair → ℕ → ℕ → Bool
over_ratio_fits s p a b = exact_ratio s a b && over_fits s p (ratio s a b)

-- a root's argument, p × s, may pass 64 bits; the scale is a multiple of 64
unfoldable pub root_fits : ℕ → Pair → Bool
root_fits s p = ordered p && eqb (s % 64) 0 && ltb (p.hi * s) (2 ^ 70)

unfoldable pub cube_root_fits : ℕ → Pair → Bool
cube_root_fits s p = ordered p && eqb (s % 64) 0 && ltb (p.hi * (s * s)) (2 ^ 76)

unfoldable pub signed_ordered : SignedPair → Bool
signed_ordered a = leb_ℤ a.lo a.hi

unfoldable pub signed_plus_fits : SignedPair → SignedPair → Bool
signed_plus_fits a b = word (reach a + reach b)

unfoldable pub signed_times_fits : ℕ → SignedPair → SignedPair → Bool
signed_times_fits s a b = ltb 0 s && signed_ordered a && signed_ordered b && word (ceil_div (reach a * reach b) s)

unfoldable pub signed_over_fits : ℕ → SignedPair → Pair → Bool
signed_over_fits s a q = ltb 0 q.lo && ordered q && word (ceil_div (reach a * s) q.lo)
