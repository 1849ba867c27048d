-- What reading lines means: the values, or the first bad line.
use Rattle.std.specs.Prelude.{ℕ, zero, suc, ◌+◌, ◌-◌, ◌*◌, Bool, true, false, cond, ◌&&◌, List, [], ◌∷◌, leb, eqb, length, get_or, drop, ℤ, pos, neg_ℤ, nat_abs}
use Rattle.lines.specs.declared.keys.Kind.{Kind}
use Rattle.lines.specs.declared.keys.Kind.TheVariants.{Letter, Number, Signed}
use Rattle.lines.specs.Ascii.{newline, minus, digit0}
use Rattle.lines.specs.Fields.{Field}
use Rattle.lines.specs.Texts.{most_digits}

-- what stands at the front of some bytes: a value, with the bytes behind its newline, or nothing that is right
pub data Front : Type 0 where
  got : ℤ → List ℕ → Front
  bad : Front

-- the first byte, or 0 where there is none; and the bytes behind it
abbrev pub first : List ℕ → ℕ
first s = get_or s 0 0

abbrev pub rest : List ℕ → List ℕ
rest s = drop 1 s

-- v, whose newline is to come first
unfoldable pub ended : ℤ → List ℕ → Front
ended v s = cond (eqb (first s) newline) (got v (rest s)) bad

abbrev pub is_digit : ℕ → Bool
is_digit b = leb digit0 b && leb b (digit0 + 9)

-- behind digits whose value is n: at most `left` digits more, then a newline
unfoldable pub read_digits : ℕ → ℕ → List ℕ → Front
read_digits zero n s = ended (pos n) s
read_digits (suc left) n s = cond (is_digit (first s)) (read_digits left (n * 10 + (first s - digit0)) (rest s)) (ended (pos n) s)

-- behind digits whose value is n: exactly `left` digits more, then a newline
unfoldable pub read_fixed : ℕ → ℕ → List ℕ → Front
read_fixed zero n s = ended (pos n) s
read_fixed (suc left) n s = cond (is_digit (first s)) (read_fixed left (n * 10 + (first s - digit0)) (rest s)) bad

-- the digit 0 alone, or digits of which the first is not 0
unfoldable pub read_number : List ℕ → Front
read_number s =
    cond (eqb (first s) digit0) (ended (pos 0) (rest s))
    (cond (is_digit (first s)) (read_digits (most_digits - 1) (first s - digit0) (rest s)) bad)

-- what was read, below zero: 0 has no minus
unfoldable pub negated : Front → Front
negated (got v s) = cond (eqb (nat_abs v) 0) bad (got (neg_ℤ (pos (nat_abs v))) s)
negated bad = bad

unfoldable pub read_signed : List ℕ → Front
read_signed s = cond (eqb (first s) minus) (negated (read_number (rest s))) (read_number s)

-- the letter x for 0, or y for 1
unfoldable pub read_letter : ℕ → ℕ → List ℕ → Front
read_letter x y s = cond (eqb (first s) x) (ended (pos 0) (rest s)) (cond (eqb (first s) y) (ended (pos 1) (rest s)) bad)

unfoldable pub read_value : Kind → List ℕ → Front
read_value (Letter x y) s = read_letter x y s
read_value Number s = read_number s
read_value Signed s = read_signed s

-- whether s begins with k
unfoldable pub begins : List ℕ → List ℕ → Bool
begins [] s = true
begins (b ∷ k) [] = false
begins (b ∷ k) (c ∷ s) = eqb c b && begins k s

-- the line of the field f
unfoldable pub read_line : Field → List ℕ → Front
read_line f s = cond (begins f.key s) (read_value f.kind (drop (length f.key) s)) bad

-- what reading some lines gives: their values, or the first bad line, counted from 1
pub data Reading : Type 0 where
  values : List ℤ → Reading
  bad_line : ℕ → Reading

unfoldable pub prepend : ℤ → Reading → Reading
prepend v (values vs) = values (v ∷ vs)
prepend v (bad_line l) = bad_line l

-- nothing may stand where line l would be, behind the last
unfoldable pub read_end : ℕ → List ℕ → Reading
read_end l [] = values []
read_end l (b ∷ s) = bad_line l

-- line l is read, and then what is behind it
unfoldable pub and_then : ℕ → Front → (List ℕ → Reading) → Reading
and_then l (got v s) more = prepend v (more s)
and_then l bad more = bad_line l

-- the lines of the table T, of which the first is line l, and nothing behind them
unfoldable pub read_from : ℕ → List Field → List ℕ → Reading
read_from l [] s = read_end l s
read_from l (f ∷ T) s = and_then l (read_line f s) (read_from (suc l) T)

-- the lines of s, which are to be those of the table T
abbrev pub read_lines : List Field → List ℕ → Reading
read_lines T s = read_from 1 T s
