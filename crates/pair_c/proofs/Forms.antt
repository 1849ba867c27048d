-- The structs that cross C, and the integers that they stand for.
use mathlib.Core.Path.{◌≡◌, refl, ap, ◌∙◌}
use mathlib.Core.Bool.{Bool, true, false, cond}
use Prim.Native.Nat.{ℕ, zero, suc, ◌<◌}
use native.Mathlib.Omega.{arith}
use lib.IntN.{ℤ, pos, negsuc, neg_ℤ, nat_abs, ◌-ℤ◌}
use lib.Signed.{lt_z}
use Rattle.std.proofs.lemmas.Int.{ints, to_z-of_z, to_z_pos, fits_signed_from_abs}
use Rattle.pair.specs.SignedPairs.{SignedPair}
use Rattle.pair.proofs.Numbers.{by_test, neg_size, plus_size, zero_less, zero_less_size, min_is_least, max_is_greatest, le_z-leb_ℤ}
use Rattle.pair_c.specs.Forms.{integer, plain, meaning, plain_pair}
use Rattle.pair_c.specs.declared.signed.Integer.{Integer}
use Rattle.pair_c.specs.declared.signed.Signed.{Signed}

pub below_is : (z : Integer) → z.below ≡ true → pos 0 -ℤ pos z.size ≡ integer z
unfolding integer
below_is z e = rw (e, zero_less (pos z.size))

pub above_is : (z : Integer) → z.below ≡ false → pos z.size ≡ integer z
unfolding integer
above_is z e = rw e

pub plain_is : (x : ℤ) → record { below = lt_z x (pos 0); size = nat_abs x } ≡ plain x
unfolding plain
plain_is (pos n) = let e : lt_z (pos n) (pos 0) ≡ false = grind (arith, ints) in λ i. record { below = e i; size = n }
plain_is (negsuc n) = refl

-- a form stands for the integer that it is the form of, and what stands for an integer is its form

pub plain_means : (x : ℤ) → integer (plain x) ≡ x
unfolding integer plain
plain_means (pos n) = refl
plain_means (negsuc n) = refl

plain_when : (below : Bool) (size : ℕ) → (below ≡ true → 0 < size) → record { below = below; size = size } ≡ plain (cond below (neg_ℤ (pos size)) (pos size))
unfolding plain
plain_when false size h = refl
plain_when true zero h = absurd (omega (arith, h refl))
plain_when true (suc n) h = refl

pub is_plain : (z : Integer) → (z.below ≡ true → 0 < z.size) → z ≡ plain (integer z)
unfolding integer
is_plain z h = plain_when z.below z.size h

pub plain_above : (z : Integer) → z.below ≡ false → z ≡ plain (pos z.size)
unfolding plain
plain_above z e = λ i. record { below = e i; size = z.size }

pub integer-size : (z : Integer) → nat_abs (integer z) ≡ z.size
unfolding integer
integer-size z = by_test z.below (λ t. nat_abs (cond t (neg_ℤ (pos z.size)) (pos z.size)) ≡ z.size) (λ e. neg_size (pos z.size)) (λ e. refl)

pub plain_pair_means : (a : SignedPair) → meaning (plain_pair a) ≡ a
unfolding meaning plain_pair
plain_pair_means a = λ i. record { lo = plain_means a.lo i; hi = plain_means a.hi i }

pub pair_means : {r : Signed} {a : SignedPair} → r ≡ plain_pair a → meaning r ≡ a
pair_means {a = a} e = ap meaning e ∙ plain_pair_means a

pub meaning_low : (a : Signed) → (meaning a).lo ≡ integer a.lo
unfolding meaning
meaning_low a = refl

pub meaning_high : (a : Signed) → (meaning a).hi ≡ integer a.hi
unfolding meaning
meaning_high a = refl

pub ruleset integers = (to_z-of_z, to_z_pos, fits_signed_from_abs, below_is, above_is, plain_is, neg_size, plus_size, zero_less, zero_less_size, min_is_least, max_is_greatest, le_z-leb_ℤ)
