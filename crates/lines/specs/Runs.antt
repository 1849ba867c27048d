-- Runs of so many: a list cut into lists of n, of which the last may be shorter. Rows of numbers one behind the other.
use Rattle.std.specs.Prelude.{ℕ, zero, suc, ◌≤◌, List, [], ◌∷◌, map, ◌≡◌, length, take, drop}
use Rattle.lines.specs.Decimal.{row_text}
use Rattle.lines.specs.Splitting.{joined}

-- the runs of n, at most k of them
unfoldable pub runs_in : {A : Type 0} → ℕ → ℕ → List A → List (List A)
runs_in zero n xs = []
runs_in (suc k) n [] = []
runs_in (suc k) n (x ∷ xs) = take n (x ∷ xs) ∷ runs_in k n (drop n (x ∷ xs))

-- all of them: there are no more than elements
unfoldable pub runs : {A : Type 0} → ℕ → List A → List (List A)
runs n xs = runs_in (length xs) n xs

-- what runs of n are: each but the last has n elements, and the last at least one and no more
unfoldable pub RunsOf : {A : Type 0} → ℕ → List (List A) → Type 0
RunsOf n [] = Unit
RunsOf n (r ∷ []) = (1 ≤ length r) × (length r ≤ n)
RunsOf n (r ∷ r' ∷ rs) = (length r ≡ n) × RunsOf n (r' ∷ rs)

-- rows, each ended by its newline
unfoldable pub rows_text : List (List ℕ) → List ℕ
rows_text rows = joined (map row_text rows)
