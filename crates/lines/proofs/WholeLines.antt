-- The text of a table's lines has a newline for each line, and nothing behind the last.
use Prim.Native.Nat.{ℕ, zero, suc, ◌+◌, ◌/◌, ◌%◌, ◌≤◌}
use mathlib.Core.Bool.{Bool, true, cond, ◌&&◌}
use mathlib.Core.List.{List, [], ◌∷◌, ◌++◌}
use mathlib.Core.Path.{◌≡◌, refl, ap, ◌∙◌}
use native.Mathlib.Omega.{arith}
use borrow.Author.Tests.{eqb-true, ltb-true, ltb-false}
use lib.Dec.{eqb, ltb}
use lib.IntN.{ℤ, pos, negsuc, nat_abs}
use lib.ListN.{length, length-append}
use Rattle.std.proofs.lemmas.Bool.{and_parts}
use Rattle.questions.proofs.Laws.{by_test}
use Rattle.lines.specs.declared.keys.Kind.{Kind}
use Rattle.lines.specs.declared.keys.Kind.TheVariants.{Letter, Number, Signed}
use Rattle.lines.specs.Ascii.{newline, minus, digit0}
use Rattle.lines.specs.Decimal.{decimal, integer_text}
use Rattle.lines.specs.Fields.{Field}
use Rattle.lines.specs.Splitting.{newlines, unended}
use Rattle.lines.specs.Texts.{letter_of, value_text, line_text, lines_text, SpeltIn}
use Rattle.lines.proofs.DecimalLaws.{decimal_small, decimal_step}
use Rattle.lines.proofs.SplitLaws.{count_here, count_onward}
use Rattle.lines.proofs.CountLaws.{newlines-append, unended_none, unended-append, unended_join}

-- the letters that may stand behind a key
abbrev pub letters_of : Kind → List ℕ
letters_of (Letter x y) = x ∷ y ∷ []
letters_of Number = []
letters_of Signed = []

-- whether no key of a table has a newline, nor a letter behind it
abbrev pub unbroken : Field → Bool
unbroken F = eqb (newlines (F.key ++ letters_of F.kind)) 0

abbrev pub all_unbroken : List Field → Bool
all_unbroken [] = true
all_unbroken (F ∷ T) = unbroken F && all_unbroken T

digit_unbroken : (n : ℕ) → newlines ((digit0 + n) ∷ []) ≡ 0
unfolding newlines
digit_unbroken n = count_onward (digit0 + n) [] (λ e. omega arith)

decimal_unbroken : (k n : ℕ) → n ≤ k → newlines (decimal n) ≡ 0
decimal_unbroken zero n h = ap newlines (decimal_small n (omega arith)) ∙ digit_unbroken n
decimal_unbroken (suc k) n h =
    by_test (ltb n 10) (λ t. newlines (decimal n) ≡ 0)
    (λ e. ap newlines (decimal_small n (ltb-true n 10 e)) ∙ digit_unbroken n)
    (λ e.
    let l : 10 ≤ n = ltb-false n 10 e in
    ap newlines (decimal_step n l) ∙ newlines-append (decimal (n / 10)) ((digit0 + n % 10) ∷ [])
    ∙ omega (arith, decimal_unbroken k (n / 10) (omega arith), digit_unbroken (n % 10)))

integer_unbroken : (v : ℤ) → newlines (integer_text v) ≡ 0
unfolding integer_text
integer_unbroken (pos n) = decimal_unbroken n n (omega arith)
integer_unbroken (negsuc n) = count_onward minus (decimal (suc n)) (λ e. omega arith) ∙ decimal_unbroken (suc n) (suc n) (omega arith)

value_unbroken : (k : Kind) (v : ℤ) → newlines (letters_of k) ≡ 0 → newlines (value_text k v) ≡ 0
unfolding value_text letter_of
value_unbroken (Letter x y) v h =
    let both = newlines-append (x ∷ []) (y ∷ []) in
    by_test (eqb (nat_abs v) 0) (λ t. newlines (cond t x y ∷ []) ≡ 0) (λ e. omega (arith, both)) (λ e. omega (arith, both))
value_unbroken Number v h = integer_unbroken v
value_unbroken Signed v h = integer_unbroken v

-- A line.
module _ (F : Field) (v : ℤ) where
  line_newlines : unbroken F ≡ true → newlines (line_text F v) ≡ 1
  unfolding line_text newlines
  line_newlines u =
      let none = eqb-true (newlines (F.key ++ letters_of F.kind)) 0 u in
      let parts = newlines-append F.key (letters_of F.kind) in
      let value = value_text F.kind v in
      omega (
        arith,
        newlines-append F.key (value ++ newline ∷ []),
        newlines-append value (newline ∷ []),
        value_unbroken F.kind v (omega arith),
        count_here newline [] refl,
      )

  line_ended : unended (line_text F v) ≡ 0
  unfolding line_text unended
  line_ended =
      let value = value_text F.kind v in
      unended-append F.key (value ++ newline ∷ []) (omega (arith, length-append value (newline ∷ [])))
      ∙ unended-append value (newline ∷ []) (omega arith)

-- a newline for each line
pub text_newlines : (T : List Field) (vs : List ℤ) → all_unbroken T ≡ true → SpeltIn T vs → newlines (lines_text T vs) ≡ length T
unfolding SpeltIn lines_text newlines
text_newlines [] vs u h = refl
text_newlines (F ∷ T) [] u h = absurd h
text_newlines (F ∷ T) (v ∷ vs) u h =
    newlines-append (line_text F v) (lines_text T vs)
    ∙ omega (
      arith,
      line_newlines F v (and_parts (unbroken F) (all_unbroken T) u).0,
      text_newlines T vs (and_parts (unbroken F) (all_unbroken T) u).1 h.1,
    )

-- nothing stands behind the last
pub text_ended : (T : List Field) (vs : List ℤ) → unended (lines_text T vs) ≡ 0
unfolding lines_text
text_ended [] vs = unended_none
text_ended (F ∷ T) [] = unended_none
text_ended (F ∷ T) (v ∷ vs) = unended_join (line_text F v) (lines_text T vs) (line_ended F v) (text_ended T vs)
