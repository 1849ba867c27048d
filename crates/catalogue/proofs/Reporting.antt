-- The steps of the code that reports, each with what it gives.
use Prim.Native.Nat.{ℕ, ◌≤◌, ◌<◌}
use mathlib.Core.List.{List, []}
use mathlib.Core.Path.{◌≡◌, sym, ap, ◌∙◌, subst}
use native.Mathlib.Omega.{arith}
use lib.ListN.{length}
use Rattle.std.specs.List.{sum_by}
use Rattle.std.specs.Prelude.{Ok, Err}
use Rattle.questions.specs.Asking.{first_of}
use Rattle.questions.specs.Outcomes.{refused, fitted}
use Rattle.questions.proofs.Laws.{buffer_refused}
use Rattle.catalogue.specs.declared.ReportRefusal.{ReportRefusal}
use Rattle.catalogue.specs.declared.ReportRefusal.TheVariants.{SheetCount, Room}
use Rattle.catalogue.specs.declared.counting.LineCount.{LineCount}
use Rattle.catalogue.specs.declared.judging.Row.{Row}
use Rattle.catalogue.specs.Catalogues.{most_sheets, longest_report, sheets_in, report_of}
use Rattle.catalogue.specs.Forms.{word_end, line_count, counted_on, sheets_counted, counts_of, rows_of, summary_of, report_text}
use Rattle.catalogue.specs.Outcome.{question15, report_outcome}
use Rattle.catalogue.specs.Promises.{Countable}
use Rattle.catalogue.proofs.LineCounts.{counted_behind, counted_exactly, counted_within}
use Rattle.catalogue.proofs.OutcomeLaws.{outcome_14, outcome_15, outcome_fitted}
use Rattle.catalogue.proofs.ReportLaws.{areas_are, axials_are, entered_text, total_most}
use Rattle.catalogue.proofs.ReportLengths.{report_most}

-- so many are counted of the bytes s
module _ (s : List ℕ) {none all : LineCount} {n : ℕ} (eo : none ≡ line_count []) (ea : all ≡ counted_on none s) (e : n ≡ sheets_counted all) where
  counted : n ≡ sheets_counted (line_count s)
  counted = e ∙ ap sheets_counted (ea ∙ counted_behind [] s none eo)

  pub exactly_counted : n ≤ most_sheets → n ≡ length (sheets_in s)
  exactly_counted few = counted ∙ counted_exactly s (omega (arith, counted, few))

  -- none, or too many
  pub uncountable_outcome : (room : ℕ) → ((1 ≤ n) × (n ≤ most_sheets) → ⊥) → report_outcome s room ≡ refused SheetCount
  unfolding report_outcome
  uncountable_outcome room outside =
      outcome_14 (sheets_in s) room (λ h. let k = counted_within s h.some h.few in outside (omega (arith, counted, k.0), omega (arith, counted, k.1)))

-- n sheets, which are not too many
module _ (s : List ℕ) {n : ℕ} (all : n ≡ length (sheets_in s)) (some : 1 ≤ n) (few : n ≤ most_sheets) where
  abbrev ps : List (List ℕ)
  ps = sheets_in s

  countable : Countable ps
  countable = record { some = omega (arith, all, some); few = omega (arith, all, few) }

  -- one is misspelt
  pub misspelt_outcome : {r : ReportRefusal} (room : ℕ) → first_of (question15 ps) ≡ Err r → report_outcome s room ≡ refused r
  unfolding report_outcome
  misspelt_outcome room e = outcome_15 ps room countable e

  -- or none is: the sums of the rows fit a word, and the report is written if it fits
  module _ {rows : List Row} (er : rows ≡ rows_of 1 ps) where
    pub areas_fit : sum_by (λ r. r.area) rows < word_end
    areas_fit =
        subst (λ (rs : List Row). sum_by (λ r. r.area) rs < word_end) (sym er)
        (omega (arith, areas_are ps, total_most 1 1 ps (omega arith, omega arith), all, few))

    pub axials_fit : sum_by (λ r. r.axial) rows < word_end
    axials_fit =
        subst (λ (rs : List Row). sum_by (λ r. r.axial) rs < word_end) (sym er)
        (omega (arith, axials_are ps, total_most 1 2 ps (omega arith, omega arith), all, few))

    -- with these counts, sums and numbers above the rows
    module _ {counts numbers : List ℕ} {sums : ℕ × ℕ} (ec : counts ≡ counts_of ps) (es : sums ≡ (sum_by (λ r. r.area) rows, sum_by (λ r. r.axial) rows))
        (en : numbers ≡ summary_of n counts sums.0 sums.1) where
      text : report_text numbers rows ≡ report_of ps
      text =
          ap (λ (l : List ℕ). report_text l rows) en
          ∙ entered_text ps all ec er (ap (λ (p : ℕ × ℕ). p.0) es) (ap (λ (p : ℕ × ℕ). p.1) es)

      pub text_most : length (report_text numbers rows) ≤ longest_report
      text_most = omega (arith, ap length text, report_most ps (omega (arith, all, few)))

      pub spelt_outcome : (room : ℕ) → first_of (question15 ps) ≡ Ok tt → fitted Room room (report_text numbers rows) ≡ report_outcome s room
      unfolding report_outcome
      spelt_outcome room e = ap (fitted Room room) text ∙ sym (outcome_fitted ps room countable e)

pub ruleset misspelt = (misspelt_outcome, buffer_refused)
