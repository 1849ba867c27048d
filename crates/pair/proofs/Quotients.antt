-- Quotients rounded down and up: each is the largest or the least number with a property, and how two of them compare.
use mathlib.Core.Path.{◌≡◌, sym, ap, ap₂, ◌∙◌}
use Prim.Native.Nat.{ℕ, zero, suc, ◌+◌, ◌-◌, ◌*◌, ◌/◌, ◌%◌, ◌≤◌, ◌<◌, min}
use native.Mathlib.Nat.{le_refl, le_antisymm, le_of_suc-le-suc, suc-mul, mul_comm, mul-sub, mul-pos, mul-le-mul_left, mul-le-mul_right, le_of_mul-le-mul_right, div-mul-le_self, le-div_iff_mul-le, div-lt_iff_lt-mul, lt-div-mul-add, div-add-mod', mul-add-div_right, mul-add-mod_self_right, min-le_left, min-le_right}
use native.Mathlib.Decide.{dec_le}
use lib.Arith.{digits_div}
use native.Mathlib.Omega.{arith}
use Rattle.pair.specs.Rounding.{ceil_div}
use Rattle.pair.specs.RoundingLaws.{RoundingLaws}

pub ceil_le : {n d x : ℕ} → 0 < d → n ≤ x * d → ceil_div n d ≤ x
unfolding ceil_div
ceil_le {n} {d} {x} hd h =
    le_of_suc-le-suc ((div-lt_iff_lt-mul {k = d} {x = n + (d - 1)} {y = suc x} hd).1 (omega (arith, suc-mul x d)))

pub le_ceil : {n d : ℕ} → 0 < d → n ≤ ceil_div n d * d
unfolding ceil_div
le_ceil {n} {d} hd = omega (arith, lt-div-mul-add {a = n + (d - 1)} {b = d} hd)

-- x is at most a quotient where x times the divisor is at most what is divided
pub le_floor : {n d x : ℕ} → 0 < d → x * d ≤ n → x ≤ n / d
le_floor {n} {d} {x} hd h = (le-div_iff_mul-le {k = d} {x = x} {y = n} hd).1 h

pub pos_left : (a b : ℕ) → 0 < a * b → 0 < a
pos_left zero b h = omega arith
pos_left (suc a) b h = omega arith

pub sub-mul : (a b m : ℕ) → (a - b) * m ≡ a * m - b * m
sub-mul a b m = mul_comm (a - b) m ∙ mul-sub m a b ∙ ap₂ (λ (x y : ℕ). x - y) (mul_comm m a) (mul_comm m b)

-- n ÷ d times m is at most N ÷ D, from the exact fractions by cross multiplication; likewise rounded up
pub cross_down : (n d N D m : ℕ) → 0 < d → 0 < D → n * m * D ≤ N * d → n / d * m ≤ N / D
cross_down n d N D m p q h =
    le_floor q (le_of_mul-le-mul_right {k = d} (omega (arith, mul-le-mul_right (m * D) (div-mul-le_self n d))) p)

pub cross_up : (n d N D m : ℕ) → 0 < d → 0 < D → N * d ≤ n * m * D → ceil_div N D ≤ ceil_div n d * m
cross_up n d N D m p q h =
    ceil_le q (le_of_mul-le-mul_right {k = d} (omega (arith, mul-le-mul_right (m * D) (le_ceil {n = n} p))) p)

-- a smaller fraction rounded down is at most a larger one rounded up
pub cross_mid : (n d N D : ℕ) → 0 < d → 0 < D → n * D ≤ N * d → n / d ≤ ceil_div N D
cross_mid n d N D p q h =
    le_of_mul-le-mul_right {k = d * D} (omega (arith, mul-le-mul_right D (div-mul-le_self n d), mul-le-mul_right d (le_ceil {n = N} q))) (mul-pos p q)

pub floor_le_ceil : (n : ℕ) {d : ℕ} → 0 < d → n / d ≤ ceil_div n d
floor_le_ceil n {d} h = cross_mid n d n d h h (le_refl _)

-- equal fractions have equal quotients, rounded down and up
pub same_floor : (n d N D : ℕ) → 0 < d → 0 < D → n * D ≡ N * d → n / d ≡ N / D
same_floor n d N D p q e =
    le_antisymm
    (omega (arith, cross_down n d N D 1 p q (omega arith)))
    (omega (arith, cross_down N D n d 1 q p (omega arith)))

pub same_ceil : (n d N D : ℕ) → 0 < d → 0 < D → n * D ≡ N * d → ceil_div n d ≡ ceil_div N D
same_ceil n d N D p q e =
    le_antisymm
    (omega (arith, cross_up N D n d 1 q p (omega arith)))
    (omega (arith, cross_up n d N D 1 p q (omega arith)))

-- dividing twice, rounded down or up each time, is dividing once by the product
pub ceil_twice : (n a b : ℕ) → 0 < a → 0 < b → ceil_div (ceil_div n a) b ≡ ceil_div n (a * b)
ceil_twice n a b p q =
    let ab : 0 < a * b = mul-pos p q in
    le_antisymm
    (ceil_le q (ceil_le p (omega (arith, le_ceil {n = n} ab))))
    (ceil_le ab (omega (arith, le_ceil {n = n} p, mul-le-mul_right a (le_ceil {n = ceil_div n a} q))))

-- the smaller of two numbers, and of two that are m times as fine
pub min_down : (x y X Y m : ℕ) → x * m ≤ X → y * m ≤ Y → min x y * m ≤ min X Y
min_down x y X Y m h k = omega (arith, h, k, mul-le-mul_right m (min-le_left x y), mul-le-mul_right m (min-le_right x y))

pub min_up : (x y X Y m : ℕ) → X ≤ x * m → Y ≤ y * m → min X Y ≤ min x y * m
min_up x y X Y m h k = by_outcome (dec_le x y)
  where
    by_outcome : Dec (x ≤ y) → min X Y ≤ min x y * m
    by_outcome (yes p) = let e : min x y ≡ x = omega arith in rw e (omega (arith, h))
    by_outcome (no f) = let e : min x y ≡ y = omega arith in rw e (omega (arith, k))

-- a is taken apart by d: only a % d is left to divide
apart : (a b d : ℕ) → a / d * b * d + a % d * b ≡ a * b
apart a b d = omega (arith, ap (λ (x : ℕ). x * b) (div-add-mod' a d))

pub whole_apart : (a b d : ℕ) → 0 < d → a / d * b + a % d * b / d ≡ a * b / d
whole_apart a b d p = sym (mul-add-div_right p (a / d * b) (a % d * b)) ∙ ap (λ (n : ℕ). n / d) (apart a b d)

pub rest_apart : (a b d : ℕ) → a % d * b % d ≡ a * b % d
rest_apart a b d = sym (mul-add-mod_self_right (a / d * b) d (a % d * b)) ∙ ap (λ (n : ℕ). n % d) (apart a b d)

-- q is the quotient of n where what it leaves is below the divisor
pub by_rest : (q r : ℕ) {n d : ℕ} → q * d + r ≡ n → r < d → (q ≡ n / d) × (r ≡ n % d)
by_rest q r {n} {d} e h =
    let whole : n / d ≡ q = ap (λ (k : ℕ). k / d) (sym e) ∙ digits_div q h in
    (sym whole, omega (arith, ap (λ (k : ℕ). k * d) whole, div-add-mod' n d))

-- a quotient and what it leaves are together at most what is divided
pub parts_fit : (n d : ℕ) → 0 < d → n / d + n % d ≤ n
parts_fit n d p = omega (arith, div-add-mod' n d, mul-le-mul_left {m = 1} {n = d} (n / d) p)

-- whole multiples of the divisor pass through every rounding
module _ {over : ℕ → ℕ → ℕ} {added : ℕ → ℕ} (laws : RoundingLaws over added) where
  pub over_more : (q n d : ℕ) → 0 < d → q + over n d ≡ over (q * d + n) d
  over_more q n d p =
      omega (arith, laws.parts n d p, laws.parts (q * d + n) d p, mul-add-div_right p q n, ap added (mul-add-mod_self_right q d n))

  -- a quotient is at most what is divided
  pub over_most : (n d : ℕ) → 0 < d → over n d ≤ n
  over_most n d p = omega (arith, laws.parts n d p, laws.most (n % d), parts_fit n d p)
