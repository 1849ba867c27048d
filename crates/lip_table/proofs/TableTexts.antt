-- The table's text: its length, and how it goes on from a line.
use Prim.Native.Nat.{ℕ, zero, suc, ◌+◌, ◌*◌, ◌≤◌}
use mathlib.Core.List.{List, [], ◌∷◌, map}
use mathlib.Core.Path.{◌≡◌, refl, ap, ◌∙◌}
use native.Mathlib.Omega.{arith}
use lib.ListN.{length, length-append}
use Rattle.lines.specs.Decimal.{decimal, row_text}
use Rattle.lines.specs.Splitting.{joined, all_texts}
use Rattle.lines.specs.Runs.{rows_text}
use Rattle.lines.proofs.Laws.{row_size, length_between, rows_as_texts}
use Rattle.lip_table.specs.declared.entries.Entry.{Entry}
use Rattle.lip_table.specs.Forms.{table_entry, table_entries}
use Rattle.lip_table.specs.Tables.{entry_count, lower, upper, table_line, places_from, places, table, table_text, table_length}
use Rattle.lip_table.proofs.Places.{entry_box}

-- an entry has six digits
six_digits : (n : ℕ) → 500000 ≤ n → n ≤ 830000 → 6 ≡ length (decimal n)
six_digits n l h = length_between 5 n (omega arith) (omega arith)

no_row : length (row_text []) ≡ 0
unfolding row_text
no_row = refl

sizes : (j n : ℕ) → j + n ≤ entry_count → length (rows_text (map table_line (places_from j n))) ≡ n * 14
unfolding places_from rows_text joined
sizes j zero h = refl
sizes j (suc n) h =
    let b = entry_box j (omega arith) in
    omega (
      arith,
      length-append (row_text (table_line j)) (rows_text (map table_line (places_from (suc j) n))),
      row_size (lower j) (upper j ∷ []),
      row_size (upper j) [],
      no_row,
      six_digits (lower j) (omega (arith, b.low, b.mid, b.high)) (omega (arith, b.low, b.mid, b.high)),
      six_digits (upper j) (omega (arith, b.low, b.mid, b.high)) (omega (arith, b.low, b.mid, b.high)),
      sizes (suc j) n (omega arith),
    )

pub table_length_lem : length table_text ≡ table_length
unfolding table table_text places
table_length_lem = sizes 0 entry_count (omega arith)

-- of the code's entries, one behind the other
lines_of : (ps : List ℕ) → map (λ e. e.0 ∷ e.1 ∷ []) (map table_entry ps) ≡ map table_line ps
unfolding table_entry
lines_of [] = refl
lines_of (p ∷ ps) = ap (λ (rows : List (List ℕ)). table_line p ∷ rows) (lines_of ps)

pub text_of_entries : {t : List Entry} → t ≡ table_entries → all_texts (λ e. row_text (e.0 ∷ e.1 ∷ [])) t ≡ table_text
unfolding table_entries table table_text
text_of_entries {t} e =
    rows_as_texts (λ (x : Entry). x.0 ∷ x.1 ∷ []) t
    ∙ ap (λ (es : List Entry). rows_text (map (λ x. x.0 ∷ x.1 ∷ []) es)) e ∙ ap rows_text (lines_of places)
