-- The table of lip coefficients: k for the lip ratios from 0.350 to 0.600 in steps of 0.001, in whole millionths. (docs/WORKING.md, 15.2.)
use Rattle.std.specs.Prelude.{ℕ, zero, suc, ◌+◌, ◌-◌, ◌*◌, ◌/◌, List, [], ◌∷◌, map}
use Rattle.pair.specs.Rounding.{ceil_div}
use Rattle.pair.specs.Pairs.{◌to◌}
use Rattle.pair.specs.declared.Pair.{Pair}
use Rattle.lines.specs.Runs.{rows_text}
use Rattle.section.specs.Working.{k}

-- the ratios of the entries in millionths, and how many there are
abbrev pub least_ratio : ℕ
least_ratio = 350000

abbrev pub most_ratio : ℕ
most_ratio = 600000

abbrev pub step : ℕ
step = 1000

abbrev pub entry_count : ℕ
entry_count = 251

-- the ratio of entry i, 0.350 + i/1000
unfoldable pub ratio_of : ℕ → ℕ
ratio_of i = least_ratio + i * step

-- entry i: document 01's k at that ratio, which is exact, at S = 1,000,000
unfoldable pub entry : ℕ → Pair
entry i = k 1 (ratio_of i to ratio_of i)

abbrev pub lower : ℕ → ℕ
lower i = (entry i).lo

abbrev pub upper : ℕ → ℕ
upper i = (entry i).hi

-- the entries' places: n numbers from i on
unfoldable pub places_from : ℕ → ℕ → List ℕ
places_from i zero = []
places_from i (suc n) = i ∷ places_from (suc i) n

unfoldable pub places : List ℕ
unfolding places_from
places = places_from 0 entry_count

-- the table, line by line: lower and upper end; as text with one blank between
abbrev pub table_line : ℕ → List ℕ
table_line i = lower i ∷ upper i ∷ []

unfoldable pub table : List (List ℕ)
table = map table_line places

unfoldable pub table_text : List ℕ
table_text = rows_text table

-- its bytes (`table_length_lem` in proofs/Promises)
abbrev pub table_length : ℕ
table_length = 3514

-- The entry at or below a ratio, and the one at or above it. What a lookup tells: the lower end of the one, the upper end of the other.
unfoldable pub entry_below : ℕ → ℕ
entry_below ratio = (ratio - least_ratio) / step

unfoldable pub entry_above : ℕ → ℕ
entry_above ratio = ceil_div (ratio - least_ratio) step

unfoldable pub ends : ℕ → Pair
ends ratio = lower (entry_below ratio) to upper (entry_above ratio)
