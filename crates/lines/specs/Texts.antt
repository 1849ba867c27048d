-- Lines key=value, each ended by a newline, for any table of keys; and the values that can stand in them.
use Rattle.std.specs.Prelude.{ℕ, suc, ◌+◌, ◌^◌, ◌<◌, cond, List, [], ◌∷◌, ◌++◌, ◌≡◌, eqb, length, get_or, ℤ, pos, negsuc, nat_abs}
use Rattle.lines.specs.declared.keys.Kind.{Kind}
use Rattle.lines.specs.declared.keys.Kind.TheVariants.{Letter, Number, Signed}
use Rattle.lines.specs.Ascii.{newline}
use Rattle.lines.specs.Fields.{Field}
use Rattle.lines.specs.Decimal.{integer_text}

-- the letter that stands for v: x for 0, y for any other
unfoldable pub letter_of : ℕ → ℕ → ℤ → ℕ
letter_of x y v = cond (eqb (nat_abs v) 0) x y

-- what stands behind the key
unfoldable pub value_text : Kind → ℤ → List ℕ
value_text (Letter x y) v = letter_of x y v ∷ []
value_text Number v = integer_text v
value_text Signed v = integer_text v

-- the line of the field f with the value v
unfoldable pub line_text : Field → ℤ → List ℕ
line_text f v = f.key ++ (value_text f.kind v ++ (newline ∷ []))

-- a line for each field and value
unfoldable pub lines_text : List Field → List ℤ → List ℕ
lines_text [] vs = []
lines_text (f ∷ T) [] = []
lines_text (f ∷ T) (v ∷ vs) = line_text f v ++ lines_text T vs

-- the digits that a number may have
abbrev pub most_digits : ℕ
most_digits = 10

-- how many values two letters tell apart
abbrev pub letter_values : ℕ → ℕ → ℕ
letter_values x y = cond (eqb x y) 1 2

-- v can stand behind a key of this kind
abbrev pub SpeltAs : Kind → ℤ → Type 0
SpeltAs (Letter x y) (pos n) = n < letter_values x y
SpeltAs (Letter x y) (negsuc n) = ⊥
SpeltAs Number (pos n) = n < 10 ^ most_digits
SpeltAs Number (negsuc n) = ⊥
SpeltAs Signed v = nat_abs v < 10 ^ most_digits

-- v can stand in the line of the field f
unfoldable pub Spelt : Field → ℤ → Type 0
Spelt f v = SpeltAs f.kind v

-- there is a value for each field of the table, which can stand in its line
unfoldable pub SpeltIn : List Field → List ℤ → Type 0
SpeltIn [] [] = Unit
SpeltIn [] (v ∷ vs) = ⊥
SpeltIn (f ∷ T) [] = ⊥
SpeltIn (f ∷ T) (v ∷ vs) = Spelt f v × SpeltIn T vs

-- each value fits a word, but for its minus
abbrev pub Words : List ℤ → Type 0
Words vs = (i : ℕ) → nat_abs (get_or vs i (pos 0)) < 2 ^ 64

-- the most bytes that a value, a line, and the lines of a table can take
abbrev pub longest_value : Kind → ℕ
longest_value (Letter x y) = 1
longest_value Number = most_digits
longest_value Signed = most_digits + 1

unfoldable pub longest_line : Field → ℕ
longest_line f = length f.key + (longest_value f.kind + 1)

unfoldable pub longest : List Field → ℕ
longest [] = 0
longest (f ∷ T) = longest_line f + longest T

-- s is the text of the table's lines with the values vs
pub record TextOf (T : List Field) (vs : List ℤ) (s : List ℕ) : Type 0 where
  pub spelt : SpeltIn T vs
  pub text : s ≡ lines_text T vs

-- s begins with a right line of the field f
pub record Begins (f : Field) (s : List ℕ) : Type 0 where
  pub value : ℤ
  pub behind : List ℕ
  pub spelt : Spelt f value
  pub text : s ≡ line_text f value ++ behind

-- where the lines of T are to come, the first of them is not right; or none is to come, and there is something
unfoldable pub Unfit : List Field → List ℕ → Type 0
Unfit [] s = s ≡ [] → ⊥
Unfit (f ∷ T) s = Begins f s → ⊥

-- l is the first bad line of s, counted from 1: right lines of the table's first fields stand before it, and then comes what is unfit
pub record FirstBad (T : List Field) (s : List ℕ) (l : ℕ) : Type 0 where
  pub first : List Field
  pub others : List Field
  pub table : T ≡ first ++ others
  pub right : List ℤ
  pub behind : List ℕ
  pub spelt : SpeltIn first right
  pub text : s ≡ lines_text first right ++ behind
  pub number : l ≡ suc (length first)
  pub unfit : Unfit others behind
