-- What the program prints for the bytes that it reads. (docs/WORKING.md, 15.1.)
use Rattle.std.specs.Prelude.{ℕ, cond, List, ltb}
use Rattle.report.specs.Printed.{refusal_lines, outcome_prints}
use Rattle.catalogue.specs.declared.ReportRefusal.TheVariants.{SheetCount}
use Rattle.catalogue.specs.declared.counting.LineCount.{LineCount}
use Rattle.catalogue.specs.Catalogues.{most_sheets, longest_report}
use Rattle.catalogue.specs.Forms.{sheets_counted}
use Rattle.catalogue.specs.Refusals.{report_answer}
use Rattle.catalogue.specs.Outcome.{report_outcome}

-- `survey`, for a catalogue: its report, the room being that of the longest, or the refusal
unfoldable pub survey_prints : List ℕ → List ℕ
survey_prints s = outcome_prints report_answer (report_outcome s longest_report)

-- the same by the bytes that are kept of an input, and its lines (`kept_decides` in proofs/Promises)
unfoldable pub kept_prints : List ℕ → LineCount → List ℕ
kept_prints kept lines = cond (ltb most_sheets (sheets_counted lines)) (refusal_lines (report_answer SheetCount)) (survey_prints kept)
