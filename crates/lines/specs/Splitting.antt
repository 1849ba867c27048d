-- Bytes split into their lines: each with its newline, the last perhaps without.
use Rattle.std.specs.Prelude.{ℕ, suc, ◌+◌, cond, List, [], ◌∷◌, ◌++◌, ◌⊎◌, ◌≡◌, eqb, length, drop, map}
use Rattle.lines.specs.Ascii.{newline}

-- the bytes up to the first newline, with it; all bytes where there is none
unfoldable pub first_line : List ℕ → List ℕ
first_line [] = []
first_line (b ∷ s) = cond (eqb b newline) (b ∷ []) (b ∷ first_line s)

-- the place behind the line of s that goes on at `at`
abbrev pub line_end : List ℕ → ℕ → ℕ
line_end s at = at + length (first_line (drop at s))

-- a byte more at the front of the first line
unfoldable pub lengthened : ℕ → List (List ℕ) → List (List ℕ)
lengthened b [] = (b ∷ []) ∷ []
lengthened b (l ∷ ls) = (b ∷ l) ∷ ls

unfoldable pub split_lines : List ℕ → List (List ℕ)
split_lines [] = []
split_lines (b ∷ s) = cond (eqb b newline) ((b ∷ []) ∷ split_lines s) (lengthened b (split_lines s))

-- lines, or other lists, one behind the other
unfoldable pub joined : {A : Type 0} → List (List A) → List A
joined [] = []
joined (l ∷ ls) = l ++ joined ls

-- texts one behind the other
abbrev pub all_texts : {T : Type 0} → (T → List ℕ) → List T → List ℕ
all_texts bytes ts = joined (map bytes ts)

-- how many newlines s has
unfoldable pub newlines : List ℕ → ℕ
newlines [] = 0
newlines (b ∷ s) = cond (eqb b newline) (suc (newlines s)) (newlines s)

-- 1 where bytes stand behind the last newline, and 0 elsewhere
unfoldable pub unended : List ℕ → ℕ
unended [] = 0
unended (b ∷ []) = cond (eqb b newline) 0 1
unended (b ∷ c ∷ s) = unended (c ∷ s)

-- a line that ends with its only newline
pub record Whole (l : List ℕ) : Type 0 where
  pub before : List ℕ
  pub none : newlines before ≡ 0
  pub text : l ≡ before ++ (newline ∷ [])

-- some bytes, with no newline
pub record CutShort (l : List ℕ) : Type 0 where
  pub some : l ≡ [] → ⊥
  pub none : newlines l ≡ 0

-- whole lines, of which the last may be cut short
unfoldable pub LinesOf : List (List ℕ) → Type 0
LinesOf [] = Unit
LinesOf (l ∷ []) = Whole l ⊎ CutShort l
LinesOf (l ∷ m ∷ ls) = Whole l × LinesOf (m ∷ ls)
