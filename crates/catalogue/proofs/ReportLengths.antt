-- How long a report can be.
use Prim.Native.Nat.{ℕ, suc, ◌+◌, ◌*◌, ◌^◌, ◌≤◌, ◌<◌}
use mathlib.Core.List.{List, [], ◌∷◌, ◌++◌, map}
use mathlib.Core.Path.{◌≡◌, refl, ap}
use native.Mathlib.Omega.{arith}
use lib.ListN.{length, length-append}
use Rattle.questions.specs.Outcomes.{Outcome, refused, written}
use Rattle.lines.specs.Decimal.{row_text}
use Rattle.lines.specs.Splitting.{joined}
use Rattle.lines.specs.Texts.{longest}
use Rattle.lines.specs.Runs.{rows_text}
use Rattle.lines.proofs.Laws.{decimal-length, rows_join, rows_length, row_size, row_sizes_append, runs-one}
use Rattle.certificate.specs.declared.Refusal.{Refusal}
use Rattle.certificate.specs.Keys.{certificate_fields}
use Rattle.certificate.specs.Certificates.{figures_in}
use Rattle.certificate.proofs.Laws.{shown_below}
use Rattle.catalogue.specs.Catalogues.{most_sheets, certified, counted, rows_at, rows_from, total, counted_refusals, summary, alone, report_with, report_of, longest_report}
use Rattle.catalogue.proofs.EntryLaws.{counted_most}
use Rattle.catalogue.proofs.ReportLaws.{total_most}

-- Rows of numbers: none take no bytes, and a number below 10 ^ suc k takes at most suc k digits and the byte behind them.
row_none : length (row_text []) ≡ 0
row_none = omega (arith, row_sizes_append [] [])

no_rows : length (rows_text []) ≡ 0
unfolding rows_text joined
no_rows = refl

row_grows : (k n : ℕ) (ns : List ℕ) → n < 10 ^ suc k → length (row_text (n ∷ ns)) ≤ suc k + 1 + length (row_text ns)
row_grows k n ns h = omega (arith, row_size n ns, decimal-length k n h)

values_most : (k : ℕ) (f : ℕ → ℕ) (ns : List ℕ) → ((n : ℕ) → f n < 10 ^ suc k) → length (row_text (map f ns)) ≤ length ns * (suc k + 1)
values_most k f [] h = omega (arith, row_none)
values_most k f (n ∷ ns) h = omega (arith, row_grows k (f n) (map f ns) (h n), values_most k f ns h)

-- One sheet: its line, of a place of four digits and two figures of ten with a byte behind each.
module _ (place : ℕ) (p : List ℕ) where
  line_most : (o : Outcome Refusal) → certified p ≡ o → place < 10 ^ 4 → length (rows_text (rows_at place o)) ≤ 27
  unfolding rows_at certified rows_text joined
  line_most (refused r) e h = omega arith
  line_most (written c) e h =
      let shown = shown_below p (longest certificate_fields) c e in
      let area = (figures_in c).area in
      let axial = (figures_in c).axial in
      omega (
        arith,
        length-append (row_text (place ∷ area ∷ axial ∷ [])) [],
        row_grows 3 place (area ∷ axial ∷ []) h,
        row_grows 9 area (axial ∷ []) shown.0,
        row_grows 9 axial [] shown.1,
        row_none,
      )

-- All sheets: their lines, where no place has over four digits.
lines_most : (place : ℕ) (ps : List (List ℕ)) → place + length ps ≤ 10 ^ 4 → length (rows_text (rows_from place ps)) ≤ length ps * 27
unfolding rows_from
lines_most place [] h = omega (arith, no_rows)
lines_most place (p ∷ ps) h =
    let first = rows_at place (certified p) in
    let rest = rows_from (place + 1) ps in
    omega (
      arith,
      ap length (rows_join first rest),
      length-append (rows_text first) (rows_text rest),
      line_most place p (certified p) refl (omega arith),
      lines_most (place + 1) ps (omega arith),
    )

-- The report of a catalogue's sheets.
module _ (ps : List (List ℕ)) (few : length ps ≤ most_sheets) where
  abbrev rows : List (List ℕ)
  rows = rows_from 1 ps

  summary_most : length (row_text (summary ps rows)) ≤ 12 * 5 + 2 * 14
  unfolding summary
  summary_most =
      let counts = map (counted ps) counted_refusals in
      let sums = total 1 rows ∷ total 2 rows ∷ [] in
      omega (
        arith,
        row_grows 3 (length ps) (counted ps 0 ∷ (counts ++ sums)) (omega arith),
        row_grows 3 (counted ps 0) (counts ++ sums) (omega (arith, counted_most ps 0)),
        row_sizes_append counts sums,
        values_most 3 (counted ps) counted_refusals (λ k. omega (arith, counted_most ps k)),
        row_grows 12 (total 1 rows) (total 2 rows ∷ []) (omega (arith, total_most 1 1 ps (omega arith, omega arith))),
        row_grows 12 (total 2 rows) [] (omega (arith, total_most 1 2 ps (omega arith, omega arith))),
        row_none,
      )

  pub report_most : length (report_of ps) ≤ longest_report
  unfolding report_of report_with
  report_most =
      let numbers = summary ps rows in
      omega (
        arith,
        ap length (rows_join (map alone numbers) rows),
        length-append (rows_text (map alone numbers)) (rows_text rows),
        ap (λ (l : List (List ℕ)). length (rows_text l)) (runs-one numbers),
        rows_length 1 numbers (omega arith),
        summary_most,
        lines_most 1 ps (omega arith),
      )
