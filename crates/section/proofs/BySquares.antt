-- A product by the square of u: it is divided by u twice, and what both divisions leave, put together, is less than three times that square.
use Prim.Native.Nat.{ℕ, ◌+◌, ◌-◌, ◌*◌, ◌/◌, ◌%◌, ◌≤◌, ◌<◌}
use mathlib.Core.Path.{◌≡◌, sym, ap, ◌∙◌}
use native.Mathlib.Nat.{le_trans, mul-le-mul, mul-le-mul_left, mul-le-mul_right, div-add-mod', mod-lt, div-le_self, div-le_of_le-mul, div-eq_of_lt-le, mod-eq-sub-div-mul}
use native.Mathlib.Decide.{dec_le}
use native.Mathlib.Omega.{arith}
use Rattle.pair.specs.RoundingLaws.{RoundingLaws}
use Rattle.pair.proofs.Numbers.{over_more}
use Rattle.section.specs.Room.{Squared, SquareDivided}

-- a quotient below three: p says whether d goes into n, q whether twice, and o what is left adds
module _ {over : ℕ → ℕ → ℕ} {added : ℕ → ℕ} (laws : RoundingLaws over added) (n d : ℕ) (few : n < 3 * d) where
  counted : (o p q w : ℕ) → p + q ≡ w → o ≡ added (n - (p + q) * d) → w * d ≤ n → n < (w + 1) * d → p + q + o ≡ over n d
  counted o p q w e f h k =
      let whole : n / d ≡ p + q = div-eq_of_lt-le d h k ∙ sym e in
      let rest : n - (p + q) * d ≡ n % d = omega (arith, mod-eq-sub-div-mul n d, ap (λ (x : ℕ). x * d) whole) in
      omega (arith, laws.parts n d (omega (arith, few)), whole, f, ap added rest)

  pub thrice_is : {o p q : ℕ} → (d ≤ n → p ≡ 1) → (n < d → p ≡ 0) → (2 * d ≤ n → q ≡ 1) → (n < 2 * d → q ≡ 0) → o ≡ added (n - (p + q) * d) → p + q + o ≡ over n d
  thrice_is {o} {p} {q} p1 p0 q1 q0 f = by_first (dec_le d n) (dec_le (2 * d) n)
    where
      by_first : Dec (d ≤ n) → Dec (2 * d ≤ n) → p + q + o ≡ over n d
      by_first (yes a) (yes b) = counted o p q 2 (omega (arith, p1 a, q1 b)) f (omega (arith, b)) (omega (arith, few))
      by_first (yes a) (no b) = let c : n < 2 * d = omega (arith, b) in counted o p q 1 (omega (arith, p1 a, q0 c)) f (omega (arith, a)) (omega (arith, c))
      by_first (no a) (yes b) = absurd (omega (arith, a, b))
      by_first (no a) (no b) = let c : n < d = omega (arith, a) in counted o p q 0 (omega (arith, p0 c, q0 (omega (arith, c)))) f (omega arith) (omega (arith, c))

-- a product divided by u twice
module _ {a s u : ℕ} (r : Squared a s u) where
  abbrev first : ℕ
  first = a / u * s

  square_most : u * u ≤ 160000000000000000
  square_most = le_trans (mul-le-mul r.most r.most) (omega arith)

  first_most : first ≤ 640000000000000000
  first_most =
      le_trans (mul-le-mul_right s (div-le_of_le-mul u r.part)) (le_trans (mul-le-mul {n₁ = s} {m₁ = s} {n₂ = 800000000} {m₂ = 800000000} (omega (arith, r.scale, r.most)) (omega (arith, r.scale, r.most))) (omega arith))

  rest_below : first % u * u + a % u * s < 3 * (u * u)
  rest_below =
      omega (arith, mul-le-mul_right u (mod-lt first r.some), mul-le-mul_right s (mod-lt a r.some), mul-le-mul_left u r.scale, r.some)

  pub square_divided : SquareDivided (a * s) u (first / u) (first % u * u + a % u * s)
  square_divided = record {
    sum = omega (arith, ap (λ (x : ℕ). x * s) (div-add-mod' a u), ap (λ (x : ℕ). x * u) (div-add-mod' first u));
    small = rest_below;
    most = le_trans (div-le_self first u) first_most;
    square = square_most;
  }

-- so it is divided by the square of u
module _ {x u q r : ℕ} (h : SquareDivided x u q r) where
  pub positive : 0 < u * u
  positive = omega (arith, h.small)

  module _ {over : ℕ → ℕ → ℕ} {added : ℕ → ℕ} (laws : RoundingLaws over added) where
    pub by_square_is : q + over r (u * u) ≡ over x (u * u)
    by_square_is = over_more laws q r (u * u) positive ∙ ap (λ (n : ℕ). over n (u * u)) h.sum
