-- What a difference, a negation, a sum and a product of integers are above zero and below: with these, laws of integers are left to linear arithmetic.
use mathlib.Core.Path.{◌≡◌, refl}
use mathlib.Core.Bool.{cond}
use Prim.Native.Nat.{ℕ, zero, suc, ◌+◌, ◌-◌, ◌*◌, ◌≤◌, max}
use native.Mathlib.Omega.{arith}
use borrow.Author.Tests.{ltb-true, ltb-false}
use lib.Dec.{ltb}
use lib.IntN.{ℤ, pos, negsuc, neg_ℤ, sub_ℕ, nat_abs, ◌+ℤ◌, ◌*ℤ◌}
use Rattle.pair.specs.Integers.{above, below}
use Rattle.pair.proofs.Tests.{by_test}

pub sub_parts : (a b : ℕ) → above (sub_ℕ a b) + b ≡ a + below (sub_ℕ a b)
sub_parts a b =
    by_test (ltb a b) (λ t. above (cond t (negsuc (b - suc a)) (pos (a - b))) + b ≡ a + below (cond t (negsuc (b - suc a)) (pos (a - b))))
    (λ e. omega (arith, ltb-true a b e))
    (λ e. omega (arith, ltb-false a b e))

pub neg_above : (x : ℤ) → above (neg_ℤ x) ≡ below x
neg_above (pos zero) = refl
neg_above (pos (suc n)) = refl
neg_above (negsuc n) = refl

pub neg_below : (x : ℤ) → below (neg_ℤ x) ≡ above x
neg_below (pos zero) = refl
neg_below (pos (suc n)) = refl
neg_below (negsuc n) = refl

pub neg_size : (x : ℤ) → nat_abs (neg_ℤ x) ≡ nat_abs x
neg_size (pos zero) = refl
neg_size (pos (suc n)) = refl
neg_size (negsuc n) = refl

pub plus_parts : (x y : ℤ) → above (x +ℤ y) + (below x + below y) ≡ above x + above y + below (x +ℤ y)
plus_parts (pos a) (pos b) = omega arith
plus_parts (pos a) (negsuc b) = omega (arith, sub_parts a (suc b))
plus_parts (negsuc a) (pos b) = omega (arith, sub_parts b (suc a))
plus_parts (negsuc a) (negsuc b) = omega arith

pub scaled_above : (x : ℤ) (n : ℕ) → above (x *ℤ pos n) ≡ above x * n
scaled_above (pos a) n = refl
scaled_above (negsuc a) n = omega (arith, neg_above (pos (suc a * n)))

pub scaled_below : (x : ℤ) (n : ℕ) → below (x *ℤ pos n) ≡ below x * n
scaled_below (pos a) n = omega arith
scaled_below (negsuc a) n = neg_below (pos (suc a * n))

pub times_parts : (x y : ℤ) → above (x *ℤ y) + (above x * below y + below x * above y) ≡ above x * above y + below x * below y + below (x *ℤ y)
times_parts (pos a) (pos b) = omega arith
times_parts (pos a) (negsuc b) = omega (arith, neg_above (pos (a * suc b)), neg_below (pos (a * suc b)))
times_parts (negsuc a) (pos b) = omega (arith, neg_above (pos (suc a * b)), neg_below (pos (suc a * b)))
times_parts (negsuc a) (negsuc b) = omega arith

-- sizes

pub sub_size : (a b : ℕ) → nat_abs (sub_ℕ a b) ≤ max a b
sub_size a b =
    by_test (ltb a b) (λ t. nat_abs (cond t (negsuc (b - suc a)) (pos (a - b))) ≤ max a b) (λ e. omega (arith, ltb-true a b e)) (λ e. omega arith)

pub plus_size : (x y : ℤ) → nat_abs (x +ℤ y) ≤ nat_abs x + nat_abs y
plus_size (pos a) (pos b) = omega arith
plus_size (pos a) (negsuc b) = omega (arith, sub_size a (suc b))
plus_size (negsuc a) (pos b) = omega (arith, sub_size b (suc a))
plus_size (negsuc a) (negsuc b) = omega arith
