-- A line that was written with a value is read, and gives that value.
use Prim.Native.Nat.{ℕ, zero, suc, ◌+◌, ◌-◌, ◌*◌, ◌/◌, ◌%◌, ◌^◌, ◌≤◌, ◌<◌}
use mathlib.Core.Bool.{Bool, true, false, cond}
use mathlib.Core.List.{List, [], ◌∷◌, ◌++◌, append_assoc}
use mathlib.Core.Path.{◌≡◌, refl, sym, ap, ◌∙◌}
use native.Mathlib.Omega.{arith}
use borrow.Author.Tests.{ltb-true, ltb-false, eqb-true, eq-eqb, ne_eqb, le-leb}
use lib.Dec.{ltb, eqb}
use lib.IntN.{ℤ, pos, negsuc, nat_abs}
use lib.ListN.{length, drop}
use lib.Seq.{drop-append_seam}
use Rattle.std.proofs.lemmas.Bool.{and_from}
use Rattle.questions.proofs.Laws.{by_test}
use Rattle.lines.specs.Ascii.{newline, digit0, minus}
use Rattle.lines.specs.Decimal.{decimal, integer_text}
use Rattle.lines.specs.declared.keys.Kind.{Kind}
use Rattle.lines.specs.declared.keys.Kind.TheVariants.{Letter, Number, Signed}
use Rattle.lines.specs.Fields.{Field}
use Rattle.lines.specs.Texts.{letter_of, letter_values, most_digits, value_text, line_text, SpeltAs, Spelt, SpeltIn, Words}
use Rattle.lines.specs.Reading.{got, bad, first, rest, is_digit, ended, read_digits}
use Rattle.lines.specs.Reading.{read_number, negated, read_signed, read_letter, read_value, begins, read_line}
use Rattle.lines.proofs.DecimalLaws.{decimal_small, decimal_step, length_small, length_step, decimal-length}
use Rattle.lines.proofs.ReadSteps.{negated_more}
use Rattle.lines.proofs.ReadFound.{bad_not_got, line_found, line_of}

pub digit_first : (d : ℕ) → d < 10 → is_digit (digit0 + d) ≡ true
digit_first d h = and_from _ _ (le-leb digit0 (digit0 + d) (omega arith)) (le-leb (digit0 + d) (digit0 + 9) (omega arith))

first_digit : (n : ℕ) (t : List ℕ) → 0 < n → n < 10 → read_number ((digit0 + n) ∷ t) ≡ read_digits (most_digits - 1) n t
unfolding read_number
first_digit n t p h =
    let other : digit0 + n ≡ digit0 → ⊥ = λ e. omega arith in
    let value : digit0 + n - digit0 ≡ n = omega arith in
    rw (ne_eqb (digit0 + n) digit0 other, digit_first n h, value)

next_digit : (left n d : ℕ) (t : List ℕ) → d < 10 → read_digits (suc left) n ((digit0 + d) ∷ t) ≡ read_digits left (n * 10 + d) t
unfolding read_digits
next_digit left n d t h = let value : digit0 + d - digit0 ≡ d = omega arith in rw (digit_first d h, value)

-- the digits of a number above zero are read one by one, with t still to come
digits_back : (k n : ℕ) (t : List ℕ) → n ≤ k → 0 < n → length (decimal n) ≤ most_digits
    → read_number (decimal n ++ t) ≡ read_digits (most_digits - length (decimal n)) n t
digits_back zero n t h p len = absurd (omega arith)
digits_back (suc k) n t h p len = by_outcome (ltb n 10) refl (digits_back k (n / 10))
  where
    by_outcome : (b : Bool) → ltb n 10 ≡ b
        → ((t : List ℕ) → n / 10 ≤ k → 0 < n / 10 → length (decimal (n / 10)) ≤ most_digits → read_number (decimal (n / 10) ++ t)
        ≡ read_digits (most_digits - length (decimal (n / 10))) (n / 10) t)
        → read_number (decimal n ++ t) ≡ read_digits (most_digits - length (decimal n)) n t
    by_outcome true e r =
        let small : n < 10 = ltb-true n 10 e in
        ap (λ (l : List ℕ). read_number (l ++ t)) (decimal_small n small) ∙ first_digit n t p small
        ∙ ap (λ (m : ℕ). read_digits (most_digits - m) n t) (sym (length_small n small))
    by_outcome false e r =
        let big : 10 ≤ n = ltb-false n 10 e in
        let upper = n / 10 in
        let last = n % 10 in
        let left : most_digits - length (decimal upper) ≡ suc (most_digits - length (decimal n)) = omega (arith, length_step n big) in
        let again : n / 10 * 10 + n % 10 ≡ n = omega arith in
        ap (λ (l : List ℕ). read_number (l ++ t)) (decimal_step n big)
        ∙ ap read_number (append_assoc (decimal upper) ((digit0 + last) ∷ []) t)
        ∙ r ((digit0 + last) ∷ t) (omega arith) (omega arith) (omega (arith, length_step n big))
        ∙ ap (λ (m : ℕ). read_digits m upper ((digit0 + last) ∷ t)) left
        ∙ next_digit (most_digits - length (decimal n)) upper last t (omega arith)
        ∙ ap (λ (m : ℕ). read_digits (most_digits - length (decimal n)) m t) again

digits_ended : (left n : ℕ) (t : List ℕ) → read_digits left n (newline ∷ t) ≡ got (pos n) t
unfolding read_digits ended
digits_ended zero n t = refl
digits_ended (suc left) n t = refl

number_back : (n : ℕ) (t : List ℕ) → n < 10 ^ most_digits → read_number (decimal n ++ (newline ∷ t)) ≡ got (pos n) t
unfolding read_number ended
number_back zero t h = ap (λ (l : List ℕ). read_number (l ++ (newline ∷ t))) (decimal_small 0 (omega arith))
number_back (suc n) t h =
    digits_back (suc n) (suc n) (newline ∷ t) (omega arith) (omega arith) (decimal-length (most_digits - 1) (suc n) h)
    ∙ digits_ended (most_digits - length (decimal (suc n))) (suc n) t

-- a number has no minus in front
plain_signed : (s t : List ℕ) (v : ℤ) → read_number s ≡ got v t → read_signed s ≡ got v t
unfolding read_signed read_number
plain_signed s t v e =
    by_test (eqb (first s) minus) (λ b. cond b (negated (read_number (rest s))) (read_number s) ≡ got v t)
    (λ g. let none : read_number s ≡ bad = rw (eqb-true (first s) minus g) in absurd (bad_not_got (sym none ∙ e))) (λ g. e)

signed_back : (v : ℤ) (t : List ℕ) → SpeltAs Signed v → read_signed (integer_text v ++ (newline ∷ t)) ≡ got v t
unfolding read_signed integer_text
signed_back (pos n) t h = plain_signed (decimal n ++ (newline ∷ t)) t (pos n) (number_back n t h)
signed_back (negsuc n) t h = negated_more (read_number (decimal (suc n) ++ (newline ∷ t))) (pos (suc n)) t (number_back (suc n) t h) (λ e. absurd (omega arith))

letters_differ : (x y : ℕ) → 1 < letter_values x y → y ≡ x → ⊥
letters_differ x y h e = let one : letter_values x y ≡ 1 = rw (eq-eqb x y (sym e)) in omega (arith, one)

letters_two : (x y : ℕ) → letter_values x y ≤ 2
letters_two x y = by_test (eqb x y) (λ t. cond t 1 2 ≤ 2) (λ e. omega arith) (λ e. omega arith)

letter_back : (x y : ℕ) (v : ℤ) (t : List ℕ) → SpeltAs (Letter x y) v → read_letter x y (letter_of x y v ∷ (newline ∷ t)) ≡ got v t
unfolding read_letter letter_of ended
letter_back x y (pos zero) t h = rw (eq-eqb x x refl)
letter_back x y (pos (suc zero)) t h = rw (ne_eqb y x (letters_differ x y h), eq-eqb y y refl)
letter_back x y (pos (suc (suc n))) t h = absurd (omega (arith, letters_two x y))
letter_back x y (negsuc n) t h = absurd h

value_back : (k : Kind) (v : ℤ) (t : List ℕ) → SpeltAs k v → read_value k (value_text k v ++ (newline ∷ t)) ≡ got v t
unfolding read_value value_text integer_text
value_back (Letter x y) v t h = letter_back x y v t h
value_back Number (pos n) t h = number_back n t h
value_back Number (negsuc n) t h = absurd h
value_back Signed v t h = signed_back v t h

pub begins_back : (k s : List ℕ) → begins k (k ++ s) ≡ true
unfolding begins
begins_back [] s = refl
begins_back (b ∷ k) s = and_from _ _ (eq-eqb b b refl) (begins_back k s)

-- the line of a field with a value that can stand in it is read
pub line_back : (F : Field) (v : ℤ) (t : List ℕ) → Spelt F v → read_line F (line_text F v ++ t) ≡ got v t
unfolding read_line Spelt
line_back F v t h =
    let text = value_text F.kind v ++ (newline ∷ t) in
    ap (read_line F) (line_of F v t)
    ∙ ap (λ (b : Bool). cond b (read_value F.kind (drop (length F.key) (F.key ++ text))) bad) (begins_back F.key text)
    ∙ ap (read_value F.kind) (drop-append_seam F.key text)
    ∙ value_back F.kind v t h

-- what can stand in a line fits a word
spelt_word : (F : Field) (v : ℤ) → Spelt F v → nat_abs v < 2 ^ 64
unfolding Spelt
spelt_word F v h = of_kind F.kind v h
  where
    of_kind : (k : Kind) (v : ℤ) → SpeltAs k v → nat_abs v < 2 ^ 64
    of_kind (Letter x y) (pos n) h = omega (arith, letters_two x y)
    of_kind (Letter x y) (negsuc n) h = absurd h
    of_kind Number (pos n) h = omega arith
    of_kind Number (negsuc n) h = absurd h
    of_kind Signed v h = omega arith

-- the value of a line that is read fits 64 bits
pub line_word : (F : Field) (s : List ℕ) (v : ℤ) (t : List ℕ) → read_line F s ≡ got v t → nat_abs v < 2 ^ 64
line_word F s v t e = spelt_word F v (line_found F s v t e).0

pub spelt_words : (T : List Field) (vs : List ℤ) → SpeltIn T vs → Words vs
unfolding SpeltIn
spelt_words [] [] h i = omega arith
spelt_words [] (v ∷ vs) h i = absurd h
spelt_words (F ∷ T) [] h i = absurd h
spelt_words (F ∷ T) (v ∷ vs) h zero = spelt_word F v h.0
spelt_words (F ∷ T) (v ∷ vs) h (suc i) = spelt_words T vs h.1 i
