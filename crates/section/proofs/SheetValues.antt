-- A sheet and its values in the order of the lines: each is had back from the other.
use Prim.Native.Nat.{ℕ, zero, suc, ◌+◌, ◌≤◌, ◌<◌}
use mathlib.Core.List.{List, [], ◌∷◌}
use mathlib.Core.Path.{◌≡◌, refl, sym, ap, ◌∙◌}
use native.Mathlib.Omega.{arith}
use lib.ListN.{length, get_or, take, drop}
use lib.Seq.{take_all, drop-cons}
use Rattle.section.specs.Sheets.{sheet_lines, sheet_of, values_of}

-- sheets of the same values are the same
pub same_values : (us vs : List ℕ) → ((i : ℕ) → i < sheet_lines → get_or us i 0 ≡ get_or vs i 0) → sheet_of us ≡ sheet_of vs
unfolding sheet_of
same_values us vs e =
    rw (
      e 0 (omega arith),
      e 1 (omega arith),
      e 2 (omega arith),
      e 3 (omega arith),
      e 4 (omega arith),
      e 5 (omega arith),
      e 6 (omega arith),
      e 7 (omega arith),
      e 8 (omega arith),
      e 9 (omega arith),
      e 10 (omega arith),
      e 11 (omega arith),
      e 12 (omega arith),
    )

-- values one by one
abbrev one_by_one : ℕ → ℕ → List ℕ → List ℕ
one_by_one zero i vs = []
one_by_one (suc n) i vs = get_or vs i 0 ∷ one_by_one n (suc i) vs

all_one_by_one : (n i : ℕ) (vs : List ℕ) → i + n ≤ length vs → take n (drop i vs) ≡ one_by_one n i vs
all_one_by_one zero i vs h = refl
all_one_by_one (suc n) i vs h =
    let below : i < length vs = omega arith in
    rw (drop-cons vs i 0 below) (ap (λ (l : List ℕ). get_or vs i 0 ∷ l) (all_one_by_one n (suc i) vs (omega arith)))

pub values_of_sheet : (vs : List ℕ) → length vs ≡ sheet_lines → values_of (sheet_of vs) ≡ vs
unfolding sheet_of values_of
values_of_sheet vs n = sym (all_one_by_one sheet_lines 0 vs (omega (arith, n))) ∙ take_all sheet_lines vs (omega (arith, n))
