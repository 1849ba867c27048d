-- What the code's structs and arrays stand for.
use Rattle.std.specs.Prelude.{ℕ, ◌+◌, ◌*◌, ◌/◌, ◌-◌, ◌<◌, min, cond, List, [], ◌∷◌, ◌++◌, map, ◌≡◌, eqb, length, get_or, drop, take, Option, MatchOption, Result, Ok, Err}
use Rattle.std.specs.Borrow.{Bor}
use Rattle.questions.specs.Outcomes.{Outcome, refused, written, fitted}
use Rattle.lines.specs.Splitting.{split_lines, joined, newlines, unended}
use Rattle.lines.specs.Runs.{runs, rows_text}
use Rattle.section.specs.Sheets.{sheet_lines}
use Rattle.certificate.specs.declared.Refusal.{Refusal}
use Rattle.certificate.specs.Refusals.{refusal_answer}
use Rattle.certificate.specs.Certificates.{figures_in}
use Rattle.catalogue.specs.declared.ReportRefusal.{ReportRefusal}
use Rattle.catalogue.specs.declared.ReportRefusal.TheVariants.{Room}
use Rattle.catalogue.specs.declared.counting.LineCount.{LineCount}
use Rattle.catalogue.specs.declared.judging.Row.{Row}
use Rattle.catalogue.specs.Catalogues.{most_sheets, certified, counted, counted_refusals}

-- numbers of 64 bits are below it
abbrev pub word_end : ℕ
word_end = 18446744073709551616

-- newlines are counted up to one more than a full catalogue has
abbrev pub newlines_enough : ℕ
newlines_enough = most_sheets * sheet_lines + 1

unfoldable pub line_count : List ℕ → LineCount
line_count s = record { newlines = min (newlines s) newlines_enough; unended = eqb (unended s) 1 }

-- those of the bytes that c counts and of a part behind them
unfoldable pub counted_on : LineCount → List ℕ → LineCount
counted_on c part =
    record { newlines = min (c.newlines + newlines part) newlines_enough; unended = cond (eqb (length part) 0) c.unended (eqb (unended part) 1) }

-- the sheets that so many lines make, exact up to one more than a catalogue may have
unfoldable pub sheets_counted : LineCount → ℕ
sheets_counted c = (min c.newlines newlines_enough + cond c.unended 1 0 + (sheet_lines - 1)) / sheet_lines

-- how many bytes the first sheet has
unfoldable pub sheet_length : List ℕ → ℕ
sheet_length s = length (joined (take sheet_lines (split_lines s)))

-- the first sheet of the bytes s is taken, and t is left; or there are none
abbrev pub FirstSheet : List ℕ → Option (Bor (List ℕ)) → List ℕ → Type 0
FirstSheet s r t = MatchOption r (s ≡ []) (λ p. (0 < length s) × (p.now ≡ take (sheet_length s) s) × (t ≡ drop (sheet_length s) s))

-- what is judged of the sheet at a place: the line of an accepted one, or the refusal
unfoldable pub row_of : ℕ → Outcome Refusal → Result Row Refusal
row_of place (refused r) = Err r
row_of place (written c) = Ok (record { place = place; area = (figures_in c).area; axial = (figures_in c).axial })

-- the number that is answered, and the lines that are entered
abbrev pub number_answered : Result Row Refusal → ℕ
number_answered (Ok r) = 0
number_answered (Err r) = (refusal_answer r).refusal

abbrev pub rows_entered : Result Row Refusal → List Row
rows_entered (Ok r) = r ∷ []
rows_entered (Err r) = []

-- the lines of all accepted sheets, the first sheet being at this place
unfoldable pub rows_of : ℕ → List (List ℕ) → List Row
rows_of place [] = []
rows_of place (p ∷ ps) = rows_entered (row_of place (certified p)) ++ rows_of (place + 1) ps

-- the numbers of a line
abbrev pub numbers_of : Row → List ℕ
numbers_of r = r.place ∷ r.area ∷ r.axial ∷ []

-- the numbers that sheets are answered with, and how many of them are
abbrev pub numbers_answered : List ℕ
numbers_answered = 0 ∷ 1 ∷ 2 ∷ 3 ∷ 4 ∷ 5 ∷ 6 ∷ 7 ∷ 8 ∷ 9 ∷ 10 ∷ 11 ∷ []

unfoldable pub counts_of : List (List ℕ) → List ℕ
counts_of ps = map (counted ps) numbers_answered

-- the report with these numbers, and what happens where it is to be written
abbrev pub report_text : List ℕ → List Row → List ℕ
report_text numbers rows = rows_text (runs 1 numbers) ++ rows_text (map numbers_of rows)

abbrev pub fitted_report : List ℕ → List Row → ℕ → Outcome ReportRefusal
fitted_report numbers rows room = fitted Room room (report_text numbers rows)

-- the numbers above the lines, as the code holds the counts
abbrev pub summary_of : ℕ → List ℕ → ℕ → ℕ → List ℕ
summary_of n counts area axial = n ∷ get_or counts 0 0 ∷ (map (λ k. get_or counts k 0) counted_refusals ++ (area ∷ axial ∷ []))
