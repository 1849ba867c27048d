-- What writing and checking do, for any bytes, any numbers of a sheet and any room. (docs/WORKING.md, 15.)
use Rattle.std.specs.Prelude.{ℕ, ◌+◌, List, [], ◌∷◌, ◌++◌, ℤ, Result, Ok, Err}
use Rattle.section.specs.declared.Sheet.{Sheet}
use Rattle.questions.specs.Asking.{Asked, asked_from, first_in}
use Rattle.questions.specs.Outcomes.{Outcome, refused, written_if_met, fitting}
use Rattle.section.specs.Sheets.{sheet_lines}
use Rattle.lines.specs.Reading.{Reading, values, bad_line, read_lines}
use Rattle.certificate.specs.declared.Refusal.{Refusal}
use Rattle.certificate.specs.declared.Refusal.TheVariants.{Spelling, Room, Figure}
use Rattle.certificate.specs.Keys.{certificate_fields}
use Rattle.certificate.specs.Questions.{questions}
use Rattle.certificate.specs.Certificates.{certificate_of, sheet_shown, sheet_in, agreeing}

-- Writing: does the certificate fit the buffer?
unfoldable pub question12 : ℕ → Sheet → List (Asked Refusal)
question12 room q = fitting Room room (certificate_of q)

-- Checking: do the lines behind the sheet's agree with the working?
unfoldable pub question13 : List ℤ → Sheet → List (Asked Refusal)
question13 vs q = asked_from Figure (sheet_lines + 1) (agreeing vs q)

-- the questions on the numbers of a sheet when writing, and when checking, which passes over the twelfth
unfoldable pub writing : ℕ → Sheet → List (List (Asked Refusal))
writing room q = questions q ++ (question12 room q ∷ [])

unfoldable pub checking : List ℤ → Sheet → List (List (Asked Refusal))
checking vs q = questions q ++ ([] ∷ question13 vs q ∷ [])

-- a sheet's numbers, and a buffer's room: the call with numbers begins at the second question
unfoldable pub outcome_of : Sheet → ℕ → Outcome Refusal
outcome_of q room = written_if_met (first_in (writing room q)) (certificate_of q)

-- Are all lines there, spelt right, with nothing behind the last?
unfoldable pub outcome_read : Result Sheet Refusal → ℕ → Outcome Refusal
outcome_read (Err r) room = refused r
outcome_read (Ok q) room = outcome_of q room

-- a sheet's bytes, and a buffer's room
unfoldable pub outcome : List ℕ → ℕ → Outcome Refusal
outcome s room = outcome_read (sheet_in s) room

-- what checking finds of a certificate's bytes
unfoldable pub checked_read : Reading → Result Unit Refusal
checked_read (bad_line l) = Err (Spelling l)
checked_read (values vs) = first_in (checking vs (sheet_shown vs))

unfoldable pub checked : List ℕ → Result Unit Refusal
checked c = checked_read (read_lines certificate_fields c)

-- and what is answered: of a certificate that passes, its own length
unfoldable pub check_outcome : List ℕ → Outcome Refusal
check_outcome c = written_if_met (checked c) c
