-- The report's text, its sums and its length.
use Rattle.std.specs.List.{fold, sum_by}
use Prim.Native.Nat.{ℕ, zero, suc, ◌+◌, ◌*◌, ◌≤◌}
use mathlib.Core.List.{List, [], ◌∷◌, ◌++◌, map}
use mathlib.Core.Path.{◌≡◌, refl, sym, ap, ◌∙◌}
use native.Mathlib.Omega.{arith}
use lib.ListN.{length, get_or}
use Rattle.questions.specs.Outcomes.{Outcome, refused, written}
use Rattle.lines.specs.Texts.{longest}
use Rattle.lines.specs.Runs.{runs, rows_text}
use Rattle.lines.specs.Decimal.{row_text}
use Rattle.lines.specs.Splitting.{all_texts}
use Rattle.lines.proofs.Laws.{runs-one, rows_join, rows_as_texts, buffer_as_told, refused_as_told, written_as_told}
use Rattle.certificate.specs.declared.Refusal.{Refusal}
use Rattle.certificate.specs.Keys.{certificate_fields}
use Rattle.certificate.proofs.Laws.{shown_below}
use Rattle.catalogue.specs.declared.judging.Row.{Row}
use Rattle.catalogue.specs.Catalogues.{certified, rows_at, rows_from, total, summary, alone, report_with, report_of}
use Rattle.catalogue.specs.Forms.{counts_of, rows_of, numbers_of, summary_of, report_text}
use Rattle.catalogue.proofs.EntryLaws.{rows_numbers}

-- The sum of a column, as the code adds it.
module _ (column : ℕ) (f : Row → ℕ) (at : (r : Row) → get_or (numbers_of r) column 0 ≡ f r) where
  added : (a : ℕ) (rs : List Row) → fold (λ a x. a + f x) a rs ≡ a + total column (map numbers_of rs)
  unfolding total
  added a [] = omega arith
  added a (r ∷ rs) = omega (arith, added (a + f r) rs, at r)

  column_sum : (rs : List Row) → sum_by f rs ≡ total column (map numbers_of rs)
  column_sum rs = omega (arith, added 0 rs)

pub areas_are : (ps : List (List ℕ)) → sum_by (λ r. r.area) (rows_of 1 ps) ≡ total 1 (rows_from 1 ps)
areas_are ps = column_sum 1 (λ r. r.area) (λ r. refl) (rows_of 1 ps) ∙ ap (total 1) (rows_numbers 1 ps)

pub axials_are : (ps : List (List ℕ)) → sum_by (λ r. r.axial) (rows_of 1 ps) ≡ total 2 (rows_from 1 ps)
axials_are ps = column_sum 2 (λ r. r.axial) (λ r. refl) (rows_of 1 ps) ∙ ap (total 2) (rows_numbers 1 ps)

-- figures have at most ten digits, and so the sums fit a word
abbrev FigureColumn : ℕ → Type 0
FigureColumn column = (1 ≤ column) × (column ≤ 2)

row_below : (place column : ℕ) (p : List ℕ) (o : Outcome Refusal) (rows : List (List ℕ)) → certified p ≡ o → FigureColumn column
    → total column (rows_at place o ++ rows) ≤ 9999999999 + total column rows
unfolding rows_at total certified
row_below place column p (refused r) rows e h = omega arith
row_below place zero p (written c) rows e h = absurd (omega (arith, h.0))
row_below place (suc zero) p (written c) rows e h = omega (arith, (shown_below p (longest certificate_fields) c e).0)
row_below place (suc (suc zero)) p (written c) rows e h = omega (arith, (shown_below p (longest certificate_fields) c e).1)
row_below place (suc (suc (suc k))) p (written c) rows e h = absurd (omega (arith, h.1))

pub total_most : (place column : ℕ) (ps : List (List ℕ)) → FigureColumn column → total column (rows_from place ps) ≤ length ps * 9999999999
unfolding rows_from total
total_most place column [] h = omega arith
total_most place column (p ∷ ps) h =
    omega (arith, row_below place column p (certified p) (rows_from (place + 1) ps) refl h, total_most (place + 1) column ps h)

-- the summary as the code holds its counts
pub summary_is : (ps : List (List ℕ)) → summary_of (length ps) (counts_of ps) (total 1 (rows_from 1 ps)) (total 2 (rows_from 1 ps)) ≡ summary ps (rows_from 1 ps)
unfolding counts_of summary
summary_is ps = refl

-- and the report of it
pub report_is : (ps : List (List ℕ)) → report_text (summary ps (rows_from 1 ps)) (rows_of 1 ps) ≡ report_of ps
unfolding report_of report_with
report_is ps =
    ap (λ (rows : List (List ℕ)). rows_text (runs 1 (summary ps (rows_from 1 ps))) ++ rows_text rows) (rows_numbers 1 ps)
    ∙ ap (λ (rows : List (List ℕ)). rows_text rows ++ rows_text (rows_from 1 ps)) (runs-one (summary ps (rows_from 1 ps)))
    ∙ sym (rows_join (map alone (summary ps (rows_from 1 ps))) (rows_from 1 ps))

-- with the counts and the rows that the code has
pub entered_text : (ps : List (List ℕ)) {n : ℕ} {counts : List ℕ} {rows : List Row} {area axial : ℕ} → n ≡ length ps → counts ≡ counts_of ps → rows ≡ rows_of 1 ps
    → area ≡ sum_by (λ r. r.area) rows → axial ≡ sum_by (λ r. r.axial) rows → report_text (summary_of n counts area axial) rows ≡ report_of ps
entered_text ps {n} {counts} {rows} {area} {axial} en ec er ea ex =
    let a : area ≡ total 1 (rows_from 1 ps) = ea ∙ ap (λ (rs : List Row). sum_by (λ r. r.area) rs) er ∙ areas_are ps in
    let x : axial ≡ total 2 (rows_from 1 ps) = ex ∙ ap (λ (rs : List Row). sum_by (λ r. r.axial) rs) er ∙ axials_are ps in
    ap (λ (k : ℕ). report_text (summary_of k counts area axial) rows) en
    ∙ ap (λ (l : List ℕ). report_text (summary_of (length ps) l area axial) rows) ec
    ∙ ap (λ (rs : List Row). report_text (summary_of (length ps) (counts_of ps) area axial) rs) er
    ∙ ap (λ (k : ℕ). report_text (summary_of (length ps) (counts_of ps) k axial) (rows_of 1 ps)) a
    ∙ ap (λ (k : ℕ). report_text (summary_of (length ps) (counts_of ps) (total 1 (rows_from 1 ps)) k) (rows_of 1 ps)) x
    ∙ ap (λ (l : List ℕ). report_text l (rows_of 1 ps)) (summary_is ps)
    ∙ report_is ps

-- the text that the code writes
pub report_bytes : (numbers : List ℕ) (rows : List Row) → rows_text (runs 1 numbers) ++ all_texts (λ r. row_text (numbers_of r)) rows ≡ report_text numbers rows
report_bytes numbers rows = ap (λ (t : List ℕ). rows_text (runs 1 numbers) ++ t) (rows_as_texts numbers_of rows)

pub ruleset putting = (report_bytes, buffer_as_told, refused_as_told, written_as_told)
