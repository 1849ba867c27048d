-- Numbers in decimal: by the last digit, their length, and how the code writes them.
use Prim.Native.Nat.{ℕ, zero, suc, ◌+◌, ◌-◌, ◌/◌, ◌%◌, ◌^◌, ◌≤◌, ◌<◌}
use mathlib.Core.Bool.{Bool, true, false}
use mathlib.Core.List.{List, [], ◌∷◌, ◌++◌, append_assoc}
use mathlib.Core.Path.{◌≡◌, refl, sym, ap, ◌∙◌}
use native.Mathlib.Omega.{arith}
use borrow.Author.Tests.{lt-ltb, le-ltb, ltb-true, ltb-false}
use lib.Dec.{ltb}
use lib.IntN.{ℤ, pos, negsuc, nat_abs}
use lib.ListN.{length, set, drop}
use Rattle.std.proofs.lemmas.Grind.{drop-set_at}
use Rattle.std.specs.Fmt.{decimal as std·decimal, signed_decimal}
use Rattle.std.proofs.lemmas.Fmt.{decimal_by_steps_wide}
use Rattle.lines.specs.Ascii.{digit0, minus}
use Rattle.lines.specs.Decimal.{digits_in, decimal, integer_text, fixed_text}
use Rattle.questions.specs.Buffers.{over}
use Rattle.lines.proofs.LentParts.{length_snoc, length-over, over-set}

-- a number below ten is one digit, however many steps are allowed
in_small : (k n : ℕ) → n < 10 → digits_in k n ≡ (digit0 + n) ∷ []
unfolding digits_in
in_small zero n h = refl
in_small (suc k) n h =
    ap (λ (b : Bool). elim b as (λ x. List ℕ) [ true ↦ (digit0 + n) ∷ [] | false ↦ digits_in k (n / 10) ++ ((digit0 + n % 10) ∷ []) ]) (lt-ltb n 10 h)

in_step : (k n : ℕ) → 10 ≤ n → digits_in (suc k) n ≡ digits_in k (n / 10) ++ ((digit0 + n % 10) ∷ [])
unfolding digits_in
in_step k n h =
    ap (λ (b : Bool). elim b as (λ x. List ℕ) [ true ↦ (digit0 + n) ∷ [] | false ↦ digits_in k (n / 10) ++ ((digit0 + n % 10) ∷ []) ]) (le-ltb n 10 h)

-- any number of steps from n on gives the same
enough : (k m n : ℕ) → n ≤ k → n ≤ m → digits_in k n ≡ digits_in m n
enough zero m n h g = in_small zero n (omega arith) ∙ sym (in_small m n (omega arith))
enough (suc k) zero n h g = in_small (suc k) n (omega arith) ∙ sym (in_small zero n (omega arith))
enough (suc k) (suc m) n h g = by_outcome (ltb n 10) refl (enough k m (n / 10))
  where
    by_outcome : (b : Bool) → ltb n 10 ≡ b → (n / 10 ≤ k → n / 10 ≤ m → digits_in k (n / 10) ≡ digits_in m (n / 10)) → digits_in (suc k) n ≡ digits_in (suc m) n
    by_outcome true e r = let l : n < 10 = ltb-true n 10 e in in_small (suc k) n l ∙ sym (in_small (suc m) n l)
    by_outcome false e r =
        let l : 10 ≤ n = ltb-false n 10 e in
        in_step k n l ∙ ap (λ (x : List ℕ). x ++ ((digit0 + n % 10) ∷ [])) (r (omega arith) (omega arith)) ∙ sym (in_step m n l)

pub decimal_small : (n : ℕ) → n < 10 → decimal n ≡ (digit0 + n) ∷ []
unfolding decimal
decimal_small n h = in_small n n h

pub decimal_step : (n : ℕ) → 10 ≤ n → decimal n ≡ decimal (n / 10) ++ ((digit0 + n % 10) ∷ [])
unfolding decimal
decimal_step zero h = absurd (omega arith)
decimal_step (suc k) h =
    in_step k (suc k) h ∙ ap (λ (x : List ℕ). x ++ ((digit0 + suc k % 10) ∷ [])) (enough k (suc k / 10) (suc k / 10) (omega arith) (omega arith))

pub length_small : (n : ℕ) → n < 10 → length (decimal n) ≡ 1
length_small n h = ap length (decimal_small n h)

pub length_step : (n : ℕ) → 10 ≤ n → length (decimal n) ≡ length (decimal (n / 10)) + 1
length_step n h = ap length (decimal_step n h) ∙ length_snoc (decimal (n / 10)) (digit0 + n % 10)

-- a number below 10 ^ suc k has at most suc k digits
pub decimal-length : (k n : ℕ) → n < 10 ^ suc k → length (decimal n) ≤ suc k
decimal-length zero n h = omega (arith, length_small n h)
decimal-length (suc k) n h = by_outcome (ltb n 10) refl (decimal-length k (n / 10))
  where
    by_outcome : (b : Bool) → ltb n 10 ≡ b → (n / 10 < 10 ^ suc k → length (decimal (n / 10)) ≤ suc k) → length (decimal n) ≤ suc (suc k)
    by_outcome true e r = omega (arith, length_small n (ltb-true n 10 e))
    by_outcome false e r = omega (arith, length_step n (ltb-false n 10 e), r (omega arith))

power_positive : (k : ℕ) → 0 < 10 ^ k
power_positive zero = omega arith
power_positive (suc k) = omega (arith, power_positive k)

-- a number from 10 ^ k on has more than k digits
more_digits : (k n : ℕ) → 10 ^ k ≤ n → k < length (decimal n)
more_digits zero n h = by_outcome (ltb n 10) refl
  where
    by_outcome : (b : Bool) → ltb n 10 ≡ b → 0 < length (decimal n)
    by_outcome true e = omega (arith, length_small n (ltb-true n 10 e))
    by_outcome false e = omega (arith, length_step n (ltb-false n 10 e))
more_digits (suc k) n h =
    let one : 0 < 10 ^ k = power_positive k in
    omega (arith, length_step n (omega arith), more_digits k (n / 10) (omega arith))

pub length_between : (k n : ℕ) → 10 ^ k ≤ n → n < 10 ^ suc k → suc k ≡ length (decimal n)
length_between k n h g = omega (arith, decimal-length k n g, more_digits k n h)

-- four digits at once
pub length_four : (n : ℕ) → 10000 ≤ n → length (decimal n) ≡ length (decimal (n / 10000)) + 4
length_four n h =
    let same : n / 10 / 10 / 10 / 10 ≡ n / 10000 = omega arith in
    omega (
      arith,
      length_step n (omega arith),
      length_step (n / 10) (omega arith),
      length_step (n / 10 / 10) (omega arith),
      length_step (n / 10 / 10 / 10) (omega arith),
      ap (λ (m : ℕ). length (decimal m)) same,
    )

-- the lengths for which the code tests
module _ (n : ℕ) where
  pub two_digits : 10 ≤ n → n < 100 → length (decimal n) ≡ 2
  two_digits h g = sym (length_between 1 n h g)

  pub three_digits : 100 ≤ n → n < 1000 → length (decimal n) ≡ 3
  three_digits h g = sym (length_between 2 n h g)

  pub four_digits : 1000 ≤ n → n < 10000 → length (decimal n) ≡ 4
  four_digits h g = sym (length_between 3 n h g)

  pub word_digits : n < 2 ^ 64 → length (decimal n) ≤ 20
  word_digits h = decimal-length 19 n (omega arith)

pub ruleset widths = (length_small, two_digits, three_digits, four_digits, length_four, word_digits)

-- Of a size past a word the digits in front of the last come first.
module _ (n front at : ℕ) (big : 10 ≤ n) (front_is : front ≡ n / 10) where
  one_more : length (decimal n) ≡ length (decimal front) + 1
  one_more = omega (arith, length_step n big, ap (λ (m : ℕ). length (decimal m)) front_is)

  pub size_most : n < 2 ^ 128 → at ≡ length (decimal front) → at + 1 ≤ 39
  size_most h e = omega (arith, decimal-length 38 n (omega arith), one_more)

  -- they were put over the buffer b, which is d by now
  module _ (b d : List ℕ) (room : length (decimal n) ≤ length b) where
    pub front_room : length (decimal front) ≤ length b
    front_room = omega (arith, one_more)

    module _ (at_is : at ≡ length (decimal front)) (d_is : d ≡ over (decimal front) b) where
      pub last_room : at < length d
      last_room = omega (arith, one_more, ap length d_is, length-over (decimal front) b front_room)

      pub last_put : (last : ℕ) → last ≡ n % 10 → set d at (digit0 + last) ≡ over (decimal n) b
      last_put last last_is =
          let more : length (decimal front) < length b = omega (arith, one_more) in
          let digits : decimal n ≡ decimal front ++ ((digit0 + last) ∷ []) = rw (front_is, last_is) (decimal_step n big) in
          rw (d_is, at_is, digits) (over-set (decimal front) b (digit0 + last) more)

pub ruleset size_steps = (length_step, size_most, front_room, last_room, last_put)

-- fixed digits

pub fixed_length : (k n : ℕ) → length (fixed_text k n) ≡ k
unfolding fixed_text
fixed_length zero n = refl
fixed_length (suc k) n = length_snoc (fixed_text k (n / 10)) (digit0 + n % 10) ∙ omega (arith, fixed_length k (n / 10))

-- with the last of the digits that are left written, those before it are left
pub fixed_next : (k n : ℕ) (b : List ℕ) → 0 < k → k ≤ length b → over (fixed_text (k - 1) (n / 10)) (set b (k - 1) (digit0 + n % 10)) ≡ over (fixed_text k n) b
unfolding fixed_text over
fixed_next zero n b p h = absurd (omega arith)
fixed_next (suc k) n b p h =
    let less : suc k - 1 ≡ k = omega arith in
    let t = fixed_text k (n / 10) in
    let d = digit0 + n % 10 in
    let size = fixed_length k (n / 10) in
    ap (λ (j : ℕ). over (fixed_text j (n / 10)) (set b j d)) less
    ∙ ap (λ (l : List ℕ). t ++ l) (drop-set_at b k (length t) d size h)
    ∙ sym (append_assoc t (d ∷ []) _ ∙ ap (λ (j : ℕ). t ++ (d ∷ drop j b)) (length_snoc t d ∙ ap (λ (j : ℕ). j + 1) size))

-- none is left
pub fixed_nothing : (k n : ℕ) (b : List ℕ) → k ≡ 0 → over (fixed_text k n) b ≡ b
unfolding fixed_text over
fixed_nothing k n b e = rw e refl

-- an integer whose size fits a word has at most twenty digits and a minus
pub integer_most : (v : ℤ) → nat_abs v < 10 ^ 20 → length (integer_text v) ≤ 21
unfolding integer_text
integer_most (pos n) h = omega (arith, decimal-length 19 n h)
integer_most (negsuc n) h = omega (arith, decimal-length 19 (suc n) h)

-- std's words for the same, which tell numbers of at most 64 digits

pub std_decimal : (n : ℕ) → n < 10 ^ 64 → std·decimal n ≡ decimal n
std_decimal n h =
    decimal_by_steps_wide (λ m ds. ds ≡ decimal m) (λ m l. sym (decimal_small m l))
    (λ m ds l e. ap (λ (x : List ℕ). x ++ ((digit0 + m % 10) ∷ [])) e ∙ sym (decimal_step m l)) n h

pub std_integer : (v : ℤ) → nat_abs v < 10 ^ 64 → signed_decimal v ≡ integer_text v
unfolding integer_text
std_integer (pos n) h = std_decimal n h
std_integer (negsuc n) h = ap (λ (l : List ℕ). minus ∷ l) (std_decimal (suc n) h)

pub above_text : (v : ℤ) (n : ℕ) → v ≡ pos n → integer_text v ≡ decimal n
unfolding integer_text
above_text v n e = rw e
