-- Rounding of integers toward minus and plus infinity: the largest integer whose d-fold is at most z, and the smallest whose d-fold is at least z.
use mathlib.Core.Path.{◌≡◌, refl}
use mathlib.Core.Bool.{true, false, beq}
use Prim.Native.Nat.{ℕ, zero, suc, ◌*◌, ◌/◌, ◌≤◌, ◌<◌}
use native.Mathlib.Nat.{div-mul-le_self, zero-div}
use native.Mathlib.Omega.{arith}
use Rattle.std.proofs.lemmas.Int.{ints, to_z-of_z, to_z_pos}
use lib.IntN.{ℤ, pos, negsuc, neg_ℤ, nat_abs, ◌*ℤ◌}
use lib.Signed.{lt_z}
use Rattle.pair.specs.Rounding.{ceil_div}
use Rattle.pair.specs.Integers.{◌≼ℤ◌, least, floor_over, ceil_over}
use Rattle.pair.proofs.Quotients.{ceil_le, le_ceil, le_floor, floor_le_ceil}
use Rattle.pair.proofs.IntegerParts.{neg_above, neg_below}
use Rattle.pair.proofs.IntegerLaws.{le_trans_ℤ, le_antisym_ℤ, neg_pos-le, scaled_le, scaled_cancel, scaled_scaled, neg_scaled, of_least, least_left, least_right, le-least}

pub floor_below_ℤ : {z : ℤ} {d : ℕ} → 0 < d → floor_over z d *ℤ pos d ≼ℤ z
unfolding floor_over
floor_below_ℤ {z = pos a} {d} d⁺ = omega (arith, div-mul-le_self a d)
floor_below_ℤ {z = negsuc a} d⁺ = rw neg_scaled (neg_pos-le {n = suc a} (le_ceil d⁺))

pub le_floor_ℤ : {y z : ℤ} {d : ℕ} → 0 < d → y *ℤ pos d ≼ℤ z → y ≼ℤ floor_over z d
unfolding floor_over
le_floor_ℤ {y = pos b} {z = pos a} {d} d⁺ h = let k : b ≤ a / d = le_floor d⁺ (omega arith) in omega arith
le_floor_ℤ {y = negsuc b} {z = pos a} d⁺ h = omega arith
le_floor_ℤ {y = pos b} {z = negsuc a} d⁺ h = absurd (omega arith)
le_floor_ℤ {y = negsuc b} {z = negsuc a} {d} d⁺ h =
    let k : ceil_div (suc a) d ≤ suc b = ceil_le d⁺ (omega (arith, neg_above (pos (suc b * d)), neg_below (pos (suc b * d)))) in
    omega (arith, neg_above (pos (ceil_div (suc a) d)), neg_below (pos (ceil_div (suc a) d)))

pub ceil_above_ℤ : {z : ℤ} {d : ℕ} → 0 < d → z ≼ℤ ceil_over z d *ℤ pos d
unfolding ceil_over
ceil_above_ℤ {z = pos a} d⁺ = omega (arith, le_ceil {n = a} d⁺)
ceil_above_ℤ {z = negsuc a} {d} d⁺ = rw neg_scaled (neg_pos-le {m = suc a} (div-mul-le_self (suc a) d))

pub ceil_le_ℤ : {y z : ℤ} {d : ℕ} → 0 < d → z ≼ℤ y *ℤ pos d → ceil_over z d ≼ℤ y
unfolding ceil_over
ceil_le_ℤ {y = pos b} {z = pos a} {d} d⁺ h = let k : ceil_div a d ≤ b = ceil_le d⁺ (omega arith) in omega arith
ceil_le_ℤ {y = negsuc b} {z = pos a} {d} d⁺ h = absurd (omega (arith, neg_above (pos (suc b * d)), neg_below (pos (suc b * d))))
ceil_le_ℤ {y = pos b} {z = negsuc a} {d} d⁺ h = omega (arith, neg_above (pos (suc a / d)))
ceil_le_ℤ {y = negsuc b} {z = negsuc a} {d} d⁺ h =
    let k : suc b ≤ suc a / d = le_floor d⁺ (omega (arith, neg_above (pos (suc b * d)), neg_below (pos (suc b * d)))) in
    omega (arith, neg_above (pos (suc a / d)), neg_below (pos (suc a / d)))

pub floor_scaled : (z : ℤ) {d : ℕ} (n : ℕ) → 0 < d → floor_over z d *ℤ pos (d * n) ≼ℤ z *ℤ pos n
floor_scaled z n d⁺ = rw scaled_scaled at (scaled_le n (floor_below_ℤ {z = z} d⁺))

pub ceil_scaled : (z : ℤ) {d : ℕ} (n : ℕ) → 0 < d → z *ℤ pos n ≼ℤ ceil_over z d *ℤ pos (d * n)
ceil_scaled z n d⁺ = rw scaled_scaled at (scaled_le n (ceil_above_ℤ {z = z} d⁺))

pub floor_le_ceil_ℤ : {z w : ℤ} {d : ℕ} → 0 < d → z ≼ℤ w → floor_over z d ≼ℤ ceil_over w d
floor_le_ceil_ℤ d⁺ h = scaled_cancel d⁺ (le_trans_ℤ (floor_below_ℤ d⁺) (le_trans_ℤ h (ceil_above_ℤ d⁺)))

pub floor_mono_ℤ : {z w : ℤ} {d : ℕ} → 0 < d → z ≼ℤ w → floor_over z d ≼ℤ floor_over w d
floor_mono_ℤ d⁺ h = le_floor_ℤ d⁺ (le_trans_ℤ (floor_below_ℤ d⁺) h)

-- rounding down and the smaller of two change places

pub floor_least : (x y : ℤ) {d : ℕ} → 0 < d → least (floor_over x d) (floor_over y d) ≡ floor_over (least x y) d
floor_least x y {d} d⁺ =
    le_antisym_ℤ
    (of_least (λ w. least (floor_over x d) (floor_over y d) ≼ℤ floor_over w d) x y (least_left _ _) (least_right _ _))
    (le-least (floor_mono_ℤ d⁺ (least_left x y)) (floor_mono_ℤ d⁺ (least_right x y)))

-- by size and sign

up_zero : {d : ℕ} → 0 < d → ceil_div 0 d ≡ 0
up_zero {d} d⁺ = omega (arith, ceil_le {n = 0} {x = 0} d⁺ (omega arith))

pub floor_neg : (n : ℕ) {d : ℕ} → 0 < d → floor_over (neg_ℤ (pos n)) d ≡ neg_ℤ (pos (ceil_div n d))
unfolding floor_over
floor_neg zero {d} d⁺ = rw (zero-div d, up_zero d⁺)
floor_neg (suc n) d⁺ = refl

like_product : (a b : ℤ) → beq (lt_z a (pos 0)) (lt_z b (pos 0)) ≡ true → a *ℤ b ≡ pos (nat_abs a * nat_abs b)
like_product (pos a) (pos b) e = refl
like_product (pos a) (negsuc b) e = grind (arith, ints)
like_product (negsuc a) (pos b) e = grind (arith, ints)
like_product (negsuc a) (negsuc b) e = refl

unlike_product : (a b : ℤ) → beq (lt_z a (pos 0)) (lt_z b (pos 0)) ≡ false → a *ℤ b ≡ neg_ℤ (pos (nat_abs a * nat_abs b))
unlike_product (pos a) (pos b) e = grind (arith, ints)
unlike_product (pos a) (negsuc b) e = refl
unlike_product (negsuc a) (pos b) e = refl
unlike_product (negsuc a) (negsuc b) e = grind (arith, ints)

pub floor_like : (a b : ℤ) (d : ℕ) → beq (lt_z a (pos 0)) (lt_z b (pos 0)) ≡ true → pos (nat_abs a * nat_abs b / d) ≡ floor_over (a *ℤ b) d
unfolding floor_over
floor_like a b d e = rw (like_product a b e)

pub floor_unlike : (a b : ℤ) (d : ℕ) → 0 < d → beq (lt_z a (pos 0)) (lt_z b (pos 0)) ≡ false → neg_ℤ (pos (ceil_div (nat_abs a * nat_abs b) d)) ≡ floor_over (a *ℤ b) d
floor_unlike a b d d⁺ e = rw (unlike_product a b e, floor_neg (nat_abs a * nat_abs b) d⁺)

pub ruleset by_sign = (to_z-of_z, to_z_pos, floor_le_ceil, floor_like, floor_unlike)
