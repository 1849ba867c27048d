-- What is promised of a report on a catalogue. The theorems stand in proofs/Promises.
use Rattle.std.specs.Prelude.{ℕ, ◌+◌, ◌-◌, ◌≤◌, ◌<◌, cond, List, [], ◌∷◌, map, ◌⊎◌, ◌≡◌, eqb, length, get_or}
use Rattle.questions.specs.declared.Answer.{Answer}
use Rattle.questions.specs.Answers.{answer}
use Rattle.lines.specs.Splitting.{split_lines, unended}
use Rattle.lines.specs.Texts.{FirstBad}
use Rattle.section.specs.declared.Sheet.{Sheet}
use Rattle.section.specs.Sheets.{sheet_lines}
use Rattle.certificate.specs.Keys.{sheet_fields}
use Rattle.certificate.specs.Promises.{Question1}
use Rattle.catalogue.specs.Catalogues.{most_sheets, certified, counted, rows_at, counted_refusals, report_with, report_of}

-- Splitting. A piece with exactly as many lines as a sheet, each with its newline.
pub record WholeSheet (p : List ℕ) : Type 0 where
  pub lines : length (split_lines p) ≡ sheet_lines
  pub ended : unended p ≡ 0

-- every piece but the last is such a one; the last has at least one byte and no more lines
unfoldable pub SheetsOf : List (List ℕ) → Type 0
SheetsOf [] = Unit
SheetsOf (p ∷ []) = (1 ≤ length p) × (length (split_lines p) ≤ sheet_lines)
SheetsOf (p ∷ q ∷ ps) = WholeSheet p × SheetsOf (q ∷ ps)

-- The first question of document 01 on one sheet: it is met, or a line is the first bad one.
pub record Spelt (p : List ℕ) : Type 0 where
  pub sheet : Sheet
  pub question1 : Question1 p sheet

pub record Unspelt (p : List ℕ) : Type 0 where
  pub line : ℕ
  pub bad : FirstBad sheet_fields p line

abbrev pub sheet_at : List (List ℕ) → ℕ → List ℕ
sheet_at ps place = get_or ps (place - 1) []

abbrev pub AtPlace : List (List ℕ) → ℕ → Type 0
AtPlace ps place = (1 ≤ place) × (place ≤ length ps)

pub record AllSpelt (ps : List (List ℕ)) : Type 0 where
  pub each : (place : ℕ) → AtPlace ps place → Spelt (sheet_at ps place)

-- 14, before any other question, if there are no sheets or over 1,000
pub record Countable (ps : List (List ℕ)) : Type 0 where
  pub some : 1 ≤ length ps
  pub few : length ps ≤ most_sheets

pub record Uncountable (ps : List (List ℕ)) (a : Answer) : Type 0 where
  pub count : (length ps ≡ 0) ⊎ (most_sheets < length ps)
  pub reported : a ≡ answer 14 0 0

-- the first sheet that fails the first question stands at this place
pub record FirstAt (ps : List (List ℕ)) (place : ℕ) : Type 0 where
  pub within : AtPlace ps place
  pub before : (i : ℕ) → 1 ≤ i → i < place → Spelt (sheet_at ps i)
  pub here : Unspelt (sheet_at ps place)

-- 15, next, if there is such a sheet, with its place
pub record FirstUnspelt (ps : List (List ℕ)) (a : Answer) : Type 0 where
  pub countable : Countable ps
  pub place : ℕ
  pub first : FirstAt ps place
  pub reported : a ≡ answer 15 place 0

-- 12, last, with the length needed
pub record TooLong (ps : List (List ℕ)) (room : ℕ) (a : Answer) : Type 0 where
  pub countable : Countable ps
  pub spelt : AllSpelt ps
  pub long : room < length (report_of ps)
  pub reported : a ≡ answer 12 0 (length (report_of ps))

-- the sum of numbers
unfoldable pub sum : List ℕ → ℕ
sum [] = 0
sum (n ∷ ns) = n + sum ns

-- the lines that bear a place
unfoldable pub lines_at : ℕ → List (List ℕ) → List (List ℕ)
lines_at place [] = []
lines_at place (r ∷ rows) = cond (eqb (get_or r 0 0) place) (r ∷ lines_at place rows) (lines_at place rows)

-- What a report says of the sheets ps. Its lines stand behind the sums in some order; a place has a line exactly where its sheet is accepted, once,
-- with the area and the axial resistance that the sheet's certificate shows; and no line has another place. The accepted and the refused add up to the
-- sheets.
pub record Reports (ps : List (List ℕ)) (t : List ℕ) : Type 0 where
  pub rows : List (List ℕ)
  pub text : t ≡ report_with ps rows
  pub each_once : (place : ℕ) → AtPlace ps place → lines_at place rows ≡ rows_at place (certified (sheet_at ps place))
  pub no_other : (place : ℕ) → (AtPlace ps place → ⊥) → lines_at place rows ≡ []
  pub adds_up : length ps ≡ counted ps 0 + sum (map (counted ps) counted_refusals)

-- a report is written
pub record Reported (ps : List (List ℕ)) (room : ℕ) (t : List ℕ) : Type 0 where
  pub countable : Countable ps
  pub spelt : AllSpelt ps
  pub text : t ≡ report_of ps
  pub fits : length t ≤ room
  pub says : Reports ps t
