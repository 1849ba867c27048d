-- What is promised of the program: which bytes of an input decide what it prints.
use Prim.Native.Nat.{ℕ, ◌*◌, ◌≤◌, ◌<◌}
use mathlib.Core.List.{List, ◌++◌}
use mathlib.Core.Path.{◌≡◌, sym, ap, ◌∙◌}
use native.Mathlib.Omega.{arith}
use borrow.Author.Tests.{ltb-true, ltb-false, lt-ltb, le-ltb}
use lib.Dec.{ltb}
use lib.ListN.{length, take}
use Rattle.pair.proofs.Numbers.{by_test}
use Rattle.lines.specs.Texts.{longest}
use Rattle.lines.proofs.Laws.{split_count, split_front}
use Rattle.report.specs.Printed.{refusal_lines, outcome_prints}
use Rattle.certificate.specs.Keys.{sheet_fields}
use Rattle.catalogue.specs.declared.ReportRefusal.TheVariants.{SheetCount}
use Rattle.catalogue.specs.declared.counting.LineCount.{LineCount}
use Rattle.catalogue.specs.Forms.{sheets_counted}
use Rattle.catalogue.specs.Catalogues.{most_sheets, longest_report, sheets_in}
use Rattle.catalogue.specs.Refusals.{report_answer}
use Rattle.catalogue.specs.Outcome.{report_outcome}
use Rattle.catalogue.proofs.Laws.{counted_exactly, counted_over, cut_catalogue, sheets_count, too_many_refused}
use Rattle.report.proofs.Laws.{refused_prints}
use Rattle.survey.specs.Printed.{survey_prints, kept_prints}
use Rattle.survey.specs.Inputs.{most_kept, Read}

-- where there are not too many sheets, no byte behind the longest catalogue and one more
pub survey_cut : (s : List ℕ) (m : ℕ) → length (sheets_in s) ≤ most_sheets → most_sheets * longest sheet_fields < m → survey_prints (take m s) ≡ survey_prints s
unfolding survey_prints
survey_cut s m few h = ap (outcome_prints report_answer) (cut_catalogue s m longest_report few h)

-- where there are, the lines of their refusal are printed, so no byte behind those that have too many already
pub prints_over : (s : List ℕ) → most_sheets < length (sheets_in s) → survey_prints s ≡ refusal_lines (report_answer SheetCount)
unfolding survey_prints
prints_over s h = ap (outcome_prints report_answer) (too_many_refused s longest_report h) ∙ refused_prints report_answer SheetCount

pub survey_over : (s t : List ℕ) → most_sheets < length (sheets_in s) → survey_prints (s ++ t) ≡ survey_prints s
survey_over s t h =
    prints_over (s ++ t) (omega (arith, h, sheets_count s, sheets_count (s ++ t), split_count s, split_count (s ++ t), split_front s t)) ∙ sym (prints_over s h)

-- What is printed by the bytes that are kept and the lines that are counted.
module _ (kept : List ℕ) (lines : LineCount) where
  pub too_many : most_sheets < sheets_counted lines → kept_prints kept lines ≡ refusal_lines (report_answer SheetCount)
  unfolding kept_prints
  too_many h = rw (lt-ltb most_sheets (sheets_counted lines) h)

  pub not_too_many : sheets_counted lines ≤ most_sheets → kept_prints kept lines ≡ survey_prints kept
  unfolding kept_prints
  not_too_many h = rw (le-ltb most_sheets (sheets_counted lines) h)

  -- in a buffer of the room of the longest report
  pub survey_printed : (b : List ℕ) → 27088 ≡ length b → sheets_counted lines ≤ most_sheets
      → outcome_prints report_answer (report_outcome kept (length b)) ≡ kept_prints kept lines
  unfolding survey_prints
  survey_printed b e few = ap (λ (n : ℕ). outcome_prints report_answer (report_outcome kept n)) (sym e) ∙ sym (not_too_many few)

  -- it is what is printed for the input
  pub kept_decides : (s : List ℕ) → Read s kept lines → kept_prints kept lines ≡ survey_prints s
  kept_decides s read =
      let counted = ap sheets_counted read.counted in
      by_test (ltb most_sheets (sheets_counted lines)) (λ b. kept_prints kept lines ≡ survey_prints s)
      (λ t.
      let many = ltb-true most_sheets (sheets_counted lines) t in
      too_many many ∙ sym (prints_over s (counted_over s (omega (arith, counted)))))
      (λ f.
      let few = ltb-false most_sheets (sheets_counted lines) f in
      not_too_many few ∙ ap survey_prints read.kept_first
      ∙ survey_cut s most_kept (omega (arith, counted, counted_exactly s (omega (arith, counted)))) (omega arith))
