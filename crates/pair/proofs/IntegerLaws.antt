-- Laws of the integers' order, of products, and of the smaller and the larger of two.
use mathlib.Core.Path.{◌≡◌, sym, ap}
use mathlib.Core.Bool.{true, false, cond}
use Prim.Native.Nat.{ℕ, suc, ◌+◌, ◌*◌, ◌≤◌, ◌<◌}
use native.Mathlib.Nat.{add-zero, le_of_lt, mul_comm, mul-le-mul_right, le_of_mul-le-mul_right}
use native.Mathlib.Omega.{arith}
use borrow.Author.Tests.{leb-true, leb-false, le-leb, lt-leb}
use lib.Signed.{◌≤ℤ◌}
use lib.Dec.{leb}
use Rattle.std.specs.Int.Signed.{le_z}
use Rattle.std.specs.Int.{int_min, int_max}
use Rattle.std.proofs.lemmas.Int.{ints, clamps}
use mathlib.Core.Logic.{◌↔◌}
use borrow.Author.Differences.{le_in, le_T}
use lib.IntN.{ℤ, pos, negsuc, neg_ℤ, sub_ℕ, ◌+ℤ◌, ◌-ℤ◌, ◌*ℤ◌, *ℤ-negsuc, *ℤ_comm}
use Rattle.pair.specs.Integers.{above, below, ◌≼ℤ◌, leb_ℤ, least, greatest}
use Rattle.pair.proofs.Tests.{by_test}
use Rattle.pair.proofs.IntegerParts.{sub_parts, neg_above, neg_below, plus_parts, scaled_above, scaled_below, times_parts}

-- the order

-- it is that of the standard library
pub order_is_std : (x y : ℤ) → (x ≼ℤ y) ↔ (x ≤ℤ y)
order_is_std (pos a) (pos b) = (λ h. record { le = le_in (pos a) (pos b) h.order }, λ h. record { order = le_T (pos a) (pos b) h.le })
order_is_std (pos a) (negsuc b) = (λ h. record { le = le_in (pos a) (negsuc b) h.order }, λ h. record { order = le_T (pos a) (negsuc b) h.le })
order_is_std (negsuc a) (pos b) = (λ h. record { le = le_in (negsuc a) (pos b) h.order }, λ h. record { order = le_T (negsuc a) (pos b) h.le })
order_is_std (negsuc a) (negsuc b) = (λ h. record { le = le_in (negsuc a) (negsuc b) h.order }, λ h. record { order = le_T (negsuc a) (negsuc b) h.le })

pub le_refl_ℤ : (x : ℤ) → x ≼ℤ x
le_refl_ℤ x = omega arith

pub le_trans_ℤ : {x y z : ℤ} → x ≼ℤ y → y ≼ℤ z → x ≼ℤ z
le_trans_ℤ {x} {y} {z} h k = omega arith

pub le_antisym_ℤ : {x y : ℤ} → x ≼ℤ y → y ≼ℤ x → x ≡ y
le_antisym_ℤ {x = pos a} {y = pos b} h k = ap pos (omega arith)
le_antisym_ℤ {x = pos a} {y = negsuc b} h k = absurd (omega arith)
le_antisym_ℤ {x = negsuc a} {y = pos b} h k = absurd (omega arith)
le_antisym_ℤ {x = negsuc a} {y = negsuc b} h k = ap negsuc (omega arith)

pub leb_ℤ-true : (x y : ℤ) → leb_ℤ x y ≡ true → x ≼ℤ y
unfolding leb_ℤ
leb_ℤ-true x y e = record { order = leb-true _ _ e }

pub leb_ℤ-false : (x y : ℤ) → leb_ℤ x y ≡ false → y ≼ℤ x
unfolding leb_ℤ
leb_ℤ-false x y e = let h : above y + below x ≤ above x + below y = le_of_lt (leb-false _ _ e) in omega arith

pub le-leb_ℤ : (x y : ℤ) → x ≼ℤ y → leb_ℤ x y ≡ true
unfolding leb_ℤ
le-leb_ℤ x y h = le-leb _ _ h.order

-- and its test that of the standard library
pub le_z-leb_ℤ : (x y : ℤ) → le_z x y ≡ leb_ℤ x y
unfolding leb_ℤ
le_z-leb_ℤ (pos a) (pos b) = rw (add-zero a, add-zero b)
le_z-leb_ℤ (pos a) (negsuc b) = sym (lt-leb (a + suc b) 0 (omega arith))
le_z-leb_ℤ (negsuc a) (pos b) = sym (le-leb 0 (b + suc a) (omega arith))
le_z-leb_ℤ (negsuc a) (negsuc b) =
    by_test (leb b a) (λ t. t ≡ leb (0 + suc b) (0 + suc a))
    (λ e. sym (le-leb _ _ (omega (arith, leb-true b a e))))
    (λ e. sym (lt-leb _ _ (omega (arith, leb-false b a e))))

pub neg_le : {x y : ℤ} → x ≼ℤ y → neg_ℤ y ≼ℤ neg_ℤ x
neg_le {x} {y} h = omega (arith, neg_above x, neg_below x, neg_above y, neg_below y)

pub pos-le : {n m : ℕ} → n ≤ m → pos n ≼ℤ pos m
pos-le h = omega arith

pub neg_pos-le : {n m : ℕ} → n ≤ m → neg_ℤ (pos m) ≼ℤ neg_ℤ (pos n)
neg_pos-le h = neg_le (pos-le h)

pub plus_le : {x x' y y' : ℤ} → x ≼ℤ x' → y ≼ℤ y' → x +ℤ y ≼ℤ x' +ℤ y'
plus_le {x} {x'} {y} {y'} h k = omega (arith, plus_parts x y, plus_parts x' y')

pub scaled_le : (n : ℕ) {x y : ℤ} → x ≼ℤ y → x *ℤ pos n ≼ℤ y *ℤ pos n
scaled_le n {x} {y} h = omega (arith, scaled_above x n, scaled_below x n, scaled_above y n, scaled_below y n, mul-le-mul_right n h.order)

pub scaled_cancel : {n : ℕ} {x y : ℤ} → 0 < n → x *ℤ pos n ≼ℤ y *ℤ pos n → x ≼ℤ y
scaled_cancel {n} {x} {y} n⁺ h =
    let wide : (above x + below y) * n ≤ (above y + below x) * n = omega (arith, scaled_above x n, scaled_below x n, scaled_above y n, scaled_below y n, h.order) in
    record { order = le_of_mul-le-mul_right wide n⁺ }

pub by_parts : (x y : ℤ) → above x + below y ≡ above y + below x → x ≡ y
by_parts x y e = le_antisym_ℤ (omega arith) (omega arith)

pub sub_is : (a b : ℕ) → pos a -ℤ pos b ≡ sub_ℕ a b
sub_is a b = by_parts _ _ (omega (arith, sub_parts a b, plus_parts (pos a) (neg_ℤ (pos b)), neg_above (pos b), neg_below (pos b)))

times-eq : (n : ℕ) {a b : ℕ} → a ≡ b → a * n ≡ b * n
times-eq n e = ap (λ (t : ℕ). t * n) e

pub scaled_one : (x : ℤ) → x *ℤ pos 1 ≡ x
scaled_one x = by_parts _ _ (simp (scaled_above, scaled_below) (omega arith))

pub scaled_scaled : (x : ℤ) (m n : ℕ) → (x *ℤ pos m) *ℤ pos n ≡ x *ℤ pos (m * n)
scaled_scaled x m n = by_parts _ _ (simp (scaled_above, scaled_below) (omega arith))

pub scaled_swap : (x : ℤ) (m n : ℕ) → (x *ℤ pos m) *ℤ pos n ≡ (x *ℤ pos n) *ℤ pos m
scaled_swap x m n = rw (scaled_scaled x m n, scaled_scaled x n m, mul_comm m n)

pub scaled_product : (x y : ℤ) (m n : ℕ) → (x *ℤ pos m) *ℤ (y *ℤ pos n) ≡ (x *ℤ y) *ℤ pos (m * n)
scaled_product x y m n =
    by_parts _ _
    (simp (scaled_above, scaled_below)
    (omega (arith, simp (scaled_above, scaled_below) at (times_parts (x *ℤ pos m) (y *ℤ pos n)), times-eq (m * n) (times_parts x y))))

pub neg_scaled : (n d : ℕ) → neg_ℤ (pos n) *ℤ pos d ≡ neg_ℤ (pos (n * d))
neg_scaled n d = by_parts _ _ (simp (scaled_above, scaled_below, neg_above, neg_below) (omega arith))

pub plus_scaled : (x y : ℤ) (n : ℕ) → (x +ℤ y) *ℤ pos n ≡ x *ℤ pos n +ℤ y *ℤ pos n
plus_scaled x y n =
    by_parts _ _
    (simp (scaled_above, scaled_below)
    (omega (arith, times-eq n (plus_parts x y), simp (scaled_above, scaled_below) at (plus_parts (x *ℤ pos n) (y *ℤ pos n)))))

-- a product with one factor between two integers lies between the products with those, whatever the sign of the other factor

turned : (n : ℕ) {x y : ℤ} → x ≼ℤ y → y *ℤ negsuc n ≼ℤ x *ℤ negsuc n
turned n {x} {y} h = rw (*ℤ-negsuc x n, *ℤ-negsuc y n) (neg_le (scaled_le (suc n) h))

pub le_times : (y : ℤ) {l x h z : ℤ} → l ≼ℤ x → x ≼ℤ h → z ≼ℤ l *ℤ y → z ≼ℤ h *ℤ y → z ≼ℤ x *ℤ y
le_times (pos n) a b c d = le_trans_ℤ c (scaled_le n a)
le_times (negsuc n) a b c d = le_trans_ℤ d (turned n b)

pub times_le : (y : ℤ) {l x h z : ℤ} → l ≼ℤ x → x ≼ℤ h → l *ℤ y ≼ℤ z → h *ℤ y ≼ℤ z → x *ℤ y ≼ℤ z
times_le (pos n) a b c d = le_trans_ℤ (scaled_le n b) d
times_le (negsuc n) a b c d = le_trans_ℤ (turned n a) c

-- and with both factors so, not below the least of four products
pub le_product : {l x h k y j z : ℤ} → l ≼ℤ x → x ≼ℤ h → k ≼ℤ y → y ≼ℤ j
    → z ≼ℤ l *ℤ k → z ≼ℤ l *ℤ j → z ≼ℤ h *ℤ k → z ≼ℤ h *ℤ j → z ≼ℤ x *ℤ y
le_product {l} {x} {h} {k} {y} {j} a b c d lk lj hk hj =
    le_times y a b
    (rw (*ℤ_comm l y) (le_times l c d (rw (*ℤ_comm k l) lk) (rw (*ℤ_comm j l) lj)))
    (rw (*ℤ_comm h y) (le_times h c d (rw (*ℤ_comm k h) hk) (rw (*ℤ_comm j h) hj)))

-- the smaller and the larger of two

pub of_least : (P : ℤ → Type 0) (x y : ℤ) → P x → P y → P (least x y)
unfolding least
of_least P x y p q = by_test (leb_ℤ x y) (λ t. P (cond t x y)) (λ e. p) (λ e. q)

pub of_greatest : (P : ℤ → Type 0) (x y : ℤ) → P x → P y → P (greatest x y)
unfolding greatest
of_greatest P x y p q = by_test (leb_ℤ x y) (λ t. P (cond t y x)) (λ e. q) (λ e. p)

pub least_left : (x y : ℤ) → least x y ≼ℤ x
unfolding least
least_left x y = by_test (leb_ℤ x y) (λ t. cond t x y ≼ℤ x) (λ e. le_refl_ℤ x) (leb_ℤ-false x y)

pub least_right : (x y : ℤ) → least x y ≼ℤ y
unfolding least
least_right x y = by_test (leb_ℤ x y) (λ t. cond t x y ≼ℤ y) (leb_ℤ-true x y) (λ e. le_refl_ℤ y)

pub greatest_left : (x y : ℤ) → x ≼ℤ greatest x y
unfolding greatest
greatest_left x y = by_test (leb_ℤ x y) (λ t. x ≼ℤ cond t y x) (leb_ℤ-true x y) (λ e. le_refl_ℤ x)

pub greatest_right : (x y : ℤ) → y ≼ℤ greatest x y
unfolding greatest
greatest_right x y = by_test (leb_ℤ x y) (λ t. y ≼ℤ cond t y x) (λ e. le_refl_ℤ y) (leb_ℤ-false x y)

pub le-least : {z x y : ℤ} → z ≼ℤ x → z ≼ℤ y → z ≼ℤ least x y
le-least {z} {x} {y} h k = of_least (λ w. z ≼ℤ w) x y h k

pub greatest-le : {z x y : ℤ} → x ≼ℤ z → y ≼ℤ z → greatest x y ≼ℤ z
greatest-le {z} {x} {y} h k = of_greatest (λ w. w ≼ℤ z) x y h k

pub least_first : {x y : ℤ} → x ≼ℤ y → x ≡ least x y
least_first {x} {y} h = le_antisym_ℤ (le-least (le_refl_ℤ x) h) (least_left x y)

pub least_second : {x y : ℤ} → y ≼ℤ x → y ≡ least x y
least_second {x} {y} h = le_antisym_ℤ (le-least h (le_refl_ℤ y)) (least_right x y)

-- they are those of the standard library

pub min_is_least : (x y : ℤ) → int_min x y ≡ least x y
unfolding least
min_is_least x y = by_test (leb_ℤ x y) (λ t. int_min x y ≡ cond t x y) (λ e. min_first x y (leb_ℤ-true x y e)) (λ e. min_second x y (leb_ℤ-false x y e))
  where
    min_first : (x y : ℤ) → x ≼ℤ y → int_min x y ≡ x
    min_first x y h = let k : x ≤ℤ y = (order_is_std x y).0 h in omega (arith, ints, clamps)

    min_second : (x y : ℤ) → y ≼ℤ x → int_min x y ≡ y
    min_second x y h = let k : y ≤ℤ x = (order_is_std y x).0 h in omega (arith, ints, clamps)

pub max_is_greatest : (x y : ℤ) → int_max x y ≡ greatest x y
unfolding greatest
max_is_greatest x y = by_test (leb_ℤ x y) (λ t. int_max x y ≡ cond t y x) (λ e. max_second x y (leb_ℤ-true x y e)) (λ e. max_first x y (leb_ℤ-false x y e))
  where
    max_first : (x y : ℤ) → y ≼ℤ x → int_max x y ≡ x
    max_first x y h = let k : y ≤ℤ x = (order_is_std y x).0 h in omega (arith, ints, clamps)

    max_second : (x y : ℤ) → x ≼ℤ y → int_max x y ≡ y
    max_second x y h = let k : x ≤ℤ y = (order_is_std x y).0 h in omega (arith, ints, clamps)
