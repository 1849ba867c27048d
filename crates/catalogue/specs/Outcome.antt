-- The questions on a catalogue, in order, and what a report does for any bytes and any room. (docs/WORKING.md, 15.1.)
use Rattle.std.specs.Prelude.{ℕ, List, [], ◌∷◌, map, length}
use Rattle.questions.specs.Claims.{Claim, ◌≤?◌, ◌≡?◌, ◌and◌, ◌or◌}
use Rattle.questions.specs.Asking.{Asked, ◌else◌, asked_from, first_in}
use Rattle.questions.specs.Outcomes.{Outcome, written_if_met, fitting}
use Rattle.catalogue.specs.declared.ReportRefusal.{ReportRefusal}
use Rattle.catalogue.specs.declared.ReportRefusal.TheVariants.{SheetCount, Misspelt, Room}
use Rattle.catalogue.specs.Catalogues.{most_sheets, sheets_in, number_of, report_of}

-- Are there sheets, and not over 1,000? No: 14.
unfoldable pub question14 : List (List ℕ) → List (Asked ReportRefusal)
question14 ps = (1 ≤? length ps and length ps ≤? most_sheets else SheetCount) ∷ []

-- a sheet meets the first question: `write` does not answer 1
abbrev pub spelt : List ℕ → Claim
spelt p = number_of p ≡? 0 or 2 ≤? number_of p

-- Does each sheet meet the first question? No: 15, the first such sheet's place.
unfoldable pub question15 : List (List ℕ) → List (Asked ReportRefusal)
question15 ps = asked_from Misspelt 1 (map spelt ps)

-- Does the report fit the buffer? No: 12, with the length needed.
unfoldable pub question12 : ℕ → List (List ℕ) → List (Asked ReportRefusal)
question12 room ps = fitting Room room (report_of ps)

-- of sheets, and a buffer's room
unfoldable pub outcome_on : List (List ℕ) → ℕ → Outcome ReportRefusal
outcome_on ps room = written_if_met (first_in (question14 ps ∷ question15 ps ∷ question12 room ps ∷ [])) (report_of ps)

-- of a catalogue's bytes
unfoldable pub report_outcome : List ℕ → ℕ → Outcome ReportRefusal
report_outcome s room = outcome_on (sheets_in s) room
