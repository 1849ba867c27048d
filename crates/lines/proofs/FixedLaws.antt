-- Reading a number of fixed digits finds it exactly where its digits stand.
use Prim.Native.Nat.{ℕ, zero, suc, ◌+◌, ◌-◌, ◌*◌, ◌/◌, ◌%◌, ◌^◌, ◌≤◌, ◌<◌}
use mathlib.Core.List.{List, [], ◌∷◌, ◌++◌, append_assoc}
use mathlib.Core.Path.{◌≡◌, refl, sym, ap, ◌∙◌}
use native.Mathlib.Nat.{add-mul, mul_assoc, mul_comm, mul-le-mul_right, pow-succ'}
use native.Mathlib.Omega.{arith}
use lib.IntN.{ℤ, pos}
use Rattle.lines.specs.Ascii.{newline, digit0}
use Rattle.lines.specs.Decimal.{fixed_text}
use Rattle.lines.specs.Reading.{got, first, rest, is_digit, ended, read_fixed}
use Rattle.lines.proofs.ReadSteps.{digit_range}
use Rattle.lines.proofs.ReadFound.{taken, bad_not_got, first_is, ended_text}
use Rattle.lines.proofs.ReadBack.{digit_first}

pow_next : (k : ℕ) → 10 ^ suc k ≡ 10 ^ k * 10
pow_next k = pow-succ' 10 k ∙ mul_comm 10 (10 ^ k)

next_fixed : (left n d : ℕ) (t : List ℕ) → d < 10 → read_fixed (suc left) n ((digit0 + d) ∷ t) ≡ read_fixed left (n * 10 + d) t
unfolding read_fixed
next_fixed left n d t h = let value : digit0 + d - digit0 ≡ d = omega arith in rw (digit_first d h, value)

-- the value of k digits behind m
behind_fixed : (m n p q : ℕ) → q ≡ m * p + n / 10 → q * 10 + n % 10 ≡ m * (p * 10) + n
behind_fixed m n p q e =
    omega (arith, mul_assoc m p 10)

-- k digits are read, with j still to come
digits_read : (k j m n : ℕ) (t : List ℕ) → n < 10 ^ k → read_fixed (k + j) m (fixed_text k n ++ t) ≡ read_fixed j (m * 10 ^ k + n) t
unfolding fixed_text
digits_read zero j m n t h =
    let none : 0 + j ≡ j = omega arith in
    let value : m ≡ m * 10 ^ 0 + n = omega arith in
    ap (λ (i : ℕ). read_fixed i m t) none ∙ ap (λ (i : ℕ). read_fixed j i t) value
digits_read (suc k) j m n t h =
    let more : suc k + j ≡ k + suc j = omega arith in
    let value : (m * 10 ^ k + n / 10) * 10 + n % 10 ≡ m * 10 ^ suc k + n =
    behind_fixed m n (10 ^ k) (m * 10 ^ k + n / 10) refl ∙ ap (λ (p : ℕ). m * p + n) (sym (pow_next k)) in
    ap (λ (i : ℕ). read_fixed i m (fixed_text (suc k) n ++ t)) more
    ∙ ap (read_fixed (k + suc j) m) (append_assoc (fixed_text k (n / 10)) ((digit0 + n % 10) ∷ []) t)
    ∙ digits_read k (suc j) m (n / 10) ((digit0 + n % 10) ∷ t) (omega arith)
    ∙ next_fixed j (m * 10 ^ k + n / 10) (n % 10) t (omega arith)
    ∙ ap (λ (i : ℕ). read_fixed j i t) value

-- a number of k digits and a newline are read
pub fixed_back : (k n : ℕ) (t : List ℕ) → n < 10 ^ k → read_fixed k 0 (fixed_text k n ++ (newline ∷ t)) ≡ got (pos n) t
unfolding read_fixed ended
fixed_back k n t h =
    let all : k ≡ k + 0 = omega arith in
    let value : 0 * 10 ^ k + n ≡ n = omega arith in
    ap (λ (i : ℕ). read_fixed i 0 (fixed_text k n ++ (newline ∷ t))) all
    ∙ digits_read k 0 0 n (newline ∷ t) h
    ∙ ap (λ (i : ℕ). read_fixed 0 i (newline ∷ t)) value

-- a digit in front of k digits
digit_before : (k d n : ℕ) → d < 10 → n < 10 ^ k → fixed_text (suc k) (d * 10 ^ k + n) ≡ (digit0 + d) ∷ fixed_text k n
unfolding fixed_text
digit_before zero d n h g =
    let value : (d * 1 + n) % 10 ≡ d = omega arith in
    ap (λ (i : ℕ). (digit0 + i) ∷ []) value
digit_before (suc k) d n h g =
    let p = 10 ^ k in
    let both : d * p * 10 ≡ d * (p * 10) = mul_assoc d p 10 in
    let upper : (d * (p * 10) + n) / 10 ≡ d * p + n / 10 = omega (arith, both) in
    let last : (d * (p * 10) + n) % 10 ≡ n % 10 = omega (arith, both) in
    ap (λ (i : ℕ). fixed_text (suc (suc k)) (d * i + n)) (pow_next k)
    ∙ ap (λ (i : ℕ). fixed_text (suc k) i ++ ((digit0 + (d * (p * 10) + n) % 10) ∷ [])) upper
    ∙ ap (λ (i : ℕ). fixed_text (suc k) (d * p + n / 10) ++ ((digit0 + i) ∷ [])) last
    ∙ ap (λ (l : List ℕ). l ++ ((digit0 + n % 10) ∷ [])) (digit_before k d (n / 10) h (omega arith))

-- what was read behind m is a number n of k digits, which stand in s
pub record FixedText (k m : ℕ) (s : List ℕ) (v : ℤ) (t : List ℕ) : Type 0 where
  pub n : ℕ
  pub value : v ≡ pos (m * 10 ^ k + n)
  pub text : s ≡ fixed_text k n ++ (newline ∷ t)
  pub size : n < 10 ^ k

pub fixed_found : (k m : ℕ) (s : List ℕ) (v : ℤ) (t : List ℕ) → read_fixed k m s ≡ got v t → FixedText k m s v t
unfolding read_fixed fixed_text
fixed_found zero m s v t e =
    let r = ended_text (pos m) v s t e in
    let value : m ≡ m * 10 ^ 0 + 0 = omega arith in
    record { n = 0; value = sym r.0 ∙ ap pos value; text = r.1; size = omega arith }
fixed_found (suc k) m s v t e =
    taken (is_digit (first s)) _ _ e
    (λ g h. more (first s - digit0) (digit_range (first s) g) refl (fixed_found k (m * 10 + (first s - digit0)) (rest s) v t h))
    (λ g h. absurd (bad_not_got h))
  where
    more : (d : ℕ) → (digit0 ≤ first s) × (first s ≤ digit0 + 9) → d ≡ first s - digit0 → FixedText k (m * 10 + d) (rest s) v t → FixedText (suc k) m s v t
    more d range is r =
        let p = 10 ^ k in
        let small : d < 10 = omega arith in
        let byte : first s ≡ digit0 + d = omega arith in
        let nine : d ≤ 9 = omega arith in
        let sum : (m * 10 + d) * p ≡ m * (p * 10) + d * p =
        add-mul (m * 10) d p ∙ ap (λ (i : ℕ). i + d * p) (mul_assoc m 10 p ∙ ap (λ (i : ℕ). m * i) (mul_comm 10 p)) in
        let size : d * p + r.n < p * 10 = omega (arith, r.size, mul-le-mul_right p nine) in
        record {
          n = d * p + r.n;
          value = r.value ∙ ap pos (omega (arith, sum, ap (λ (i : ℕ). m * i) (pow_next k)));
          text =
              first_is s (first s) (omega arith) refl ∙ ap (λ (b : ℕ). b ∷ rest s) byte
              ∙ ap (λ (l : List ℕ). (digit0 + d) ∷ l) r.text
              ∙ ap (λ (l : List ℕ). l ++ (newline ∷ t)) (sym (digit_before k d r.n small r.size));
          size = omega (arith, size, pow_next k);
        }
