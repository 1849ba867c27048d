-- What is answered where a catalogue is refused: number, line and length. (docs/WORKING.md, 15.1.)
use Rattle.std.specs.Prelude.{◌≤◌, ◌≡◌, ◌≢◌, refl}
use lib.Dec.{lit≤}
use Rattle.questions.specs.declared.Answer.{Answer}
use Rattle.questions.specs.Answers.{answer, AnswerLaws}
use Rattle.catalogue.specs.declared.ReportRefusal.{ReportRefusal}
use Rattle.catalogue.specs.declared.ReportRefusal.TheVariants.{SheetCount, Misspelt, Room}

-- the line is 0, or the place of the sheet that is named; the length is 0 except at 12
abbrev pub report_answer : ReportRefusal → Answer
report_answer SheetCount = answer 14 0 0
report_answer (Misspelt place) = answer 15 place 0
report_answer (Room len) = answer 12 0 len

-- each has a number, and a length only at 12
numbered : (r : ReportRefusal) → 1 ≤ (report_answer r).refusal
numbered SheetCount = lit≤ tt
numbered (Misspelt place) = lit≤ tt
numbered (Room len) = lit≤ tt

no_length : (r : ReportRefusal) → (report_answer r).refusal ≢ 12 → (report_answer r).length ≡ 0
no_length SheetCount n = refl
no_length (Misspelt place) n = refl
no_length (Room len) n = absurd (n refl)

pub report_laws : AnswerLaws report_answer
report_laws = record { numbered = numbered; no_length = no_length }
