-- What is promised of a report on a catalogue, in one place.
use Prim.Native.Nat.{ℕ, ◌≤◌}
use mathlib.Core.List.{List}
use mathlib.Core.Logic.{◌⊎◌, ◌↔◌}
use mathlib.Core.Path.{◌≡◌, ap}
use native.Mathlib.Omega.{arith}
use lib.ListN.{length}
use Rattle.questions.specs.declared.Answer.{Answer}
use Rattle.questions.specs.Outcomes.{written, answer_of}
use Rattle.questions.specs.Reasons.{Refuses}
use Rattle.catalogue.specs.Catalogues.{sheets_in, longest_report}
use Rattle.catalogue.specs.Refusals.{report_answer}
use Rattle.catalogue.specs.Outcome.{report_outcome}
use Rattle.catalogue.specs.Promises.{Uncountable, FirstUnspelt, TooLong, Reported}
use Rattle.catalogue.proofs.Answers.{report_written_on, report_refused_on, never_short}
use Rattle.catalogue.proofs.ReportLengths.{report_most}
-- the pieces joined are the input; they are sheets, the last perhaps cut short; such pieces joined are split into just these; how many
pub use Rattle.catalogue.proofs.SheetLaws.{sheets_joined, sheets_are, sheets_unique, sheets_count}
pub use Rattle.catalogue.proofs.Cut.{sheets_of_spelt, cut_catalogue}

module _ (s : List ℕ) (room : ℕ) where
  -- a report is written exactly where the sheets can be counted, each meets the first question, and there is room; what it says is `Reports`
  pub report_written : (t : List ℕ) → (report_outcome s room ≡ written t) ↔ Reported (sheets_in s) room t
  unfolding report_outcome
  report_written = report_written_on (sheets_in s) room

  -- and 14, 15 and 12 are answered exactly in their cases, in this order
  pub report_refused : (a : Answer) → Refuses (answer_of report_answer (report_outcome s room)) a ↔ (Uncountable (sheets_in s) a ⊎ (FirstUnspelt (sheets_in s) a ⊎ TooLong (sheets_in s) room a))
  unfolding report_outcome
  report_refused = report_refused_on (sheets_in s) room

  -- how long it can be, and so how much room is enough
  pub longest_report_lem : (t : List ℕ) → report_outcome s room ≡ written t → length t ≤ longest_report
  longest_report_lem t e = let h = (report_written t).0 e in omega (arith, ap length h.text, report_most (sheets_in s) h.countable.few)

  pub room_for_report : longest_report ≤ room → (answer_of report_answer (report_outcome s room)).refusal ≡ 12 → ⊥
  unfolding report_outcome
  room_for_report = never_short (sheets_in s) room
