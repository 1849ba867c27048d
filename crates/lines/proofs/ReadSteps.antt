-- Digits that are read, how large their number can be, and a minus in front of it.
use Prim.Native.Nat.{ℕ, zero, suc, ◌+◌, ◌-◌, ◌*◌, ◌^◌, ◌≤◌, ◌<◌}
use mathlib.Core.Bool.{Bool, true, false, cond, ◌&&◌}
use mathlib.Core.List.{List, [], ◌∷◌}
use mathlib.Core.Path.{◌≡◌, refl, ap}
use native.Mathlib.Nat.{le_trans, mul_assoc, mul-le-mul_right, mul-le-mul_left, one-le-pow, pow-succ'}
use native.Mathlib.Omega.{arith}
use borrow.Author.Tests.{leb-true, ne_eqb}
use lib.Dec.{leb, eqb}
use lib.IntN.{ℤ, pos, neg_ℤ, nat_abs}
use lib.ListN.{length, take}
use Rattle.std.specs.Prelude.{nat_eq}
use Rattle.std.specs.Cmp.Lexicographic.{pointwise}
use Rattle.std.proofs.lemmas.Bool.{and_parts}
use Rattle.questions.proofs.Laws.{by_test}
use Rattle.lines.specs.Ascii.{digit0}
use Rattle.lines.specs.Reading.{Front, got, bad, first, rest, is_digit, ended, read_digits}
use Rattle.lines.specs.Reading.{read_fixed, negated, read_letter, begins}

pub digit_range : (b : ℕ) → is_digit b ≡ true → (digit0 ≤ b) × (b ≤ digit0 + 9)
digit_range b e = let h = and_parts (leb digit0 b) _ e in (leb-true digit0 b h.0, leb-true b (digit0 + 9) h.1)

-- digits that are read, and those still allowed, stay below the largest number
pub digits_bound : (most left n d : ℕ) → suc n * 10 ^ suc left ≤ most → d ≤ 9 → suc (n * 10 + d) * 10 ^ left ≤ most
digits_bound most left n d h k =
    let step : suc (n * 10 + d) ≤ suc n * 10 = omega arith in
    le_trans (mul-le-mul_right (10 ^ left) step) (rw (mul_assoc (suc n) 10 (10 ^ left), ← (pow-succ' 10 left)) h)

-- Of `most` digits at most, i are read.
module _ (most i n : ℕ) where
  pub next_fits : i < most → suc n * 10 ≤ suc n * 10 ^ (most - i)
  next_fits p =
      let e : most - i ≡ suc (most - (i + 1)) = omega arith in
      let one : 10 ≤ 10 ^ (most - i) = rw (e, pow-succ' 10 (most - (i + 1))) (omega (arith, one-le-pow (most - (i + 1)) 10 (omega arith))) in
      mul-le-mul_left (suc n) one

  pub digits_left : (limit d : ℕ) → i < most → d ≤ 9 → suc n * 10 ^ (most - i) ≤ limit → suc (n * 10 + d) * 10 ^ (most - (i + 1)) ≤ limit
  digits_left limit d p k h =
      let e : most - i ≡ suc (most - (i + 1)) = omega arith in
      digits_bound limit (most - (i + 1)) n d (rw e at h) k

  module _ (s : List ℕ) where
    pub digits_next : i < most → is_digit (first s) ≡ true
        → read_digits (most - i) n s ≡ read_digits (most - (i + 1)) (n * 10 + (first s - digit0)) (rest s)
    unfolding read_digits
    digits_next p d = let e : most - i ≡ suc (most - (i + 1)) = omega arith in rw (e, d) refl

    pub digits_done : most ≤ i → read_digits (most - i) n s ≡ ended (pos n) s
    unfolding read_digits
    digits_done p = let e : most - i ≡ 0 = omega arith in rw e refl

    pub fixed_next : i < most → is_digit (first s) ≡ true
        → read_fixed (most - i) n s ≡ read_fixed (most - (i + 1)) (n * 10 + (first s - digit0)) (rest s)
    unfolding read_fixed
    fixed_next p d = let e : most - i ≡ suc (most - (i + 1)) = omega arith in rw (e, d) refl

    pub fixed_end : i < most → is_digit (first s) ≡ false → read_fixed (most - i) n s ≡ bad
    unfolding read_fixed
    fixed_end p d = let e : most - i ≡ suc (most - (i + 1)) = omega arith in rw (e, d) refl

    pub fixed_done : most ≤ i → read_fixed (most - i) n s ≡ ended (pos n) s
    unfolding read_fixed
    fixed_done p = let e : most - i ≡ 0 = omega arith in rw e refl

-- no digit comes
pub digits_end : (left n : ℕ) (s : List ℕ) → is_digit (first s) ≡ false → read_digits left n s ≡ ended (pos n) s
unfolding read_digits
digits_end zero n s d = refl
digits_end (suc left) n s d = rw d refl

-- what the loops over digits need, where at most so many may come, and where exactly so many are to come
pub ruleset next_digit = (digits_next, digits_end, digits_done, digits_left, next_fits)

pub ruleset next_of_fixed = (fixed_next, fixed_end, fixed_done, digits_left, next_fits)

pub letter_none : (x y : ℕ) (s : List ℕ) → length s ≡ 0 → read_letter x y s ≡ bad
unfolding read_letter ended
letter_none x y [] h =
    by_test (eqb 0 x) (λ t. cond t (ended (pos 0) []) (cond (eqb 0 y) (ended (pos 1) []) bad) ≡ bad)
    (λ e. refl)
    (λ e. by_test (eqb 0 y) (λ t. cond t (ended (pos 1) []) bad ≡ bad) (λ g. refl) (λ g. refl))
letter_none x y (b ∷ s) h = absurd (omega arith)

pub negated_more : (f : Front) (v : ℤ) (s : List ℕ) → f ≡ got v s → (nat_abs v ≡ 0 → ⊥) → negated f ≡ got (neg_ℤ (pos (nat_abs v))) s
unfolding negated
negated_more f v s e n = rw (e, ne_eqb (nat_abs v) 0 n)

-- a key is found as the library finds what a slice begins with
pub begins_is : (k s : List ℕ) → begins k s ≡ pointwise nat_eq (take (length k) s) k
unfolding begins
begins_is [] s = refl
begins_is (b ∷ k) [] = refl
begins_is (b ∷ k) (c ∷ s) = ap (λ (t : Bool). eqb c b && t) (begins_is k s)
