-- A catalogue: its sheets, what each of them gives, and the report on them. (docs/WORKING.md, 15.1.)
use Rattle.std.specs.Prelude.{ℕ, ◌+◌, ◌*◌, cond, List, [], ◌∷◌, ◌++◌, map, eqb, length, get_or}
use Rattle.questions.specs.Outcomes.{Outcome, refused, written, answer_of}
use Rattle.lines.specs.Texts.{longest}
use Rattle.lines.specs.Splitting.{split_lines, joined}
use Rattle.lines.specs.Runs.{runs, rows_text}
use Rattle.section.specs.Sheets.{sheet_lines}
use Rattle.certificate.specs.declared.Refusal.{Refusal}
use Rattle.certificate.specs.Refusals.{refusal_answer}
use Rattle.certificate.specs.Keys.{certificate_fields}
use Rattle.certificate.specs.Certificates.{figures_in}
use Rattle.certificate.specs.Outcome.{outcome}

-- the most sheets of a catalogue
abbrev pub most_sheets : ℕ
most_sheets = 1000

-- the sheets: each run of as many lines as a sheet has is one, and a short rest is one cut short
unfoldable pub sheets_in : List ℕ → List (List ℕ)
sheets_in s = map joined (runs sheet_lines (split_lines s))

-- what `write` does with a sheet, given room for any certificate
unfoldable pub certified : List ℕ → Outcome Refusal
certified p = outcome p (longest certificate_fields)

-- the number that it answers: 0 where a certificate is written
unfoldable pub number_of : List ℕ → ℕ
number_of p = (answer_of refusal_answer (certified p)).refusal

-- how many of the sheets are answered with k
unfoldable pub counted : List (List ℕ) → ℕ → ℕ
counted [] k = 0
counted (p ∷ ps) k = cond (eqb (number_of p) k) 1 0 + counted ps k

-- the line of the sheet at a place, where it is accepted: its place, and the area and the axial resistance that its certificate shows
unfoldable pub rows_at : ℕ → Outcome Refusal → List (List ℕ)
rows_at place (refused r) = []
rows_at place (written c) = (place ∷ (figures_in c).area ∷ (figures_in c).axial ∷ []) ∷ []

-- the lines of all accepted sheets in the order of the input, the first sheet being at this place
unfoldable pub rows_from : ℕ → List (List ℕ) → List (List ℕ)
rows_from place [] = []
rows_from place (p ∷ ps) = rows_at place (certified p) ++ rows_from (place + 1) ps

-- the sum of a column: of the areas it is column 1, of the axial resistances 2
unfoldable pub total : ℕ → List (List ℕ) → ℕ
total column [] = 0
total column (r ∷ rows) = get_or r column 0 + total column rows

-- the refusals that sheets are counted under
abbrev pub counted_refusals : List ℕ
counted_refusals = 2 ∷ 3 ∷ 4 ∷ 5 ∷ 6 ∷ 7 ∷ 8 ∷ 9 ∷ 10 ∷ 11 ∷ []

-- the sheets, the accepted ones, those under each refusal, the sums of the lines
unfoldable pub summary : List (List ℕ) → List (List ℕ) → List ℕ
summary ps rows = length ps ∷ counted ps 0 ∷ (map (counted ps) counted_refusals ++ (total 1 rows ∷ total 2 rows ∷ []))

-- a line with one number
abbrev pub alone : ℕ → List ℕ
alone n = n ∷ []

-- one number to a line, then the lines of the accepted sheets
unfoldable pub report_with : List (List ℕ) → List (List ℕ) → List ℕ
report_with ps rows = rows_text (map alone (summary ps rows) ++ rows)

unfoldable pub report_of : List (List ℕ) → List ℕ
report_of ps = report_with ps (rows_from 1 ps)

-- the most bytes of a report: twelve numbers of sheets, two sums, and a line for each sheet
abbrev pub longest_report : ℕ
longest_report = 12 * (4 + 1) + (2 * (13 + 1) + most_sheets * ((4 + 1) + 2 * (10 + 1)))
