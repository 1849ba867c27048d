-- Whole numbers and integers in decimal, with no leading zero and no minus before 0; fixed digits; rows of numbers.
use Rattle.std.specs.Prelude.{ℕ, zero, suc, ◌+◌, ◌/◌, ◌%◌, Bool, true, false, List, [], ◌∷◌, ◌++◌, ltb, ℤ, pos, negsuc}
use Rattle.lines.specs.Ascii.{newline, blank, minus, digit0}

-- the digits of n, in at most k steps past the first
unfoldable pub digits_in : ℕ → ℕ → List ℕ
digits_in zero n = (digit0 + n) ∷ []
digits_in (suc k) n = elim (ltb n 10) [ true ↦ (digit0 + n) ∷ [] | false ↦ digits_in k (n / 10) ++ ((digit0 + n % 10) ∷ []) ]

-- n in decimal: n steps are always enough
unfoldable pub decimal : ℕ → List ℕ
unfolding digits_in
decimal n = digits_in n n

abbrev pub negative : ℤ → Bool
negative (pos n) = false
negative (negsuc n) = true

unfoldable pub integer_text : ℤ → List ℕ
integer_text (pos n) = decimal n
integer_text (negsuc n) = minus ∷ decimal (suc n)

-- the last k digits of n, zeros in front where it has fewer
unfoldable pub fixed_text : ℕ → ℕ → List ℕ
fixed_text zero n = []
fixed_text (suc k) n = fixed_text k (n / 10) ++ ((digit0 + n % 10) ∷ [])

-- so many digits always fit a word
abbrev pub most_fixed : ℕ
most_fixed = 19

-- what stands behind a number of a row: a blank where others follow, a newline behind the last
unfoldable pub row_ending : List ℕ → ℕ
row_ending [] = newline
row_ending (n ∷ ns) = blank

-- numbers in decimal with one blank between, and a newline behind them
unfoldable pub row_text : List ℕ → List ℕ
row_text [] = []
row_text (n ∷ ns) = decimal n ++ (row_ending ns ∷ row_text ns)

-- the most numbers of a row whose length is asked for, so that it fits a word
abbrev pub most_numbers : ℕ
most_numbers = 4294967296
