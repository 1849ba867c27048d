-- What the code's arrays and answers stand for.
use Rattle.std.specs.Prelude.{ℕ, ◌+◌, List, ℤ, drop, Result}
use Rattle.lines.specs.Texts.{lines_text}
use Rattle.section.specs.Sheets.{sheet_lines}
use Rattle.questions.specs.Claims.{◌is◌, pairwise}
use Rattle.questions.specs.Asking.{asked_from, first_of}
use Rattle.questions.specs.Outcomes.{Outcome, fitted}
use Rattle.certificate.specs.declared.Refusal.{Refusal}
use Rattle.certificate.specs.declared.Refusal.TheVariants.{Room, Figure}
use Rattle.certificate.specs.Keys.{certificate_fields}

-- the text of a certificate with these values, and what happens where it is to be written
abbrev pub certificate_text : List ℤ → List ℕ
certificate_text vs = lines_text certificate_fields vs

abbrev pub fitted_text : List ℤ → ℕ → Outcome Refusal
fitted_text vs room = fitted Room room (certificate_text vs)

-- what the thirteenth question finds of the values shown and of those worked
abbrev pub first_unlike : List ℤ → List ℤ → Result Unit Refusal
first_unlike shown worked = first_of (asked_from Figure (sheet_lines + 1) (pairwise ◌is◌ (drop sheet_lines shown) (drop sheet_lines worked)))
