-- What is promised of writing and checking. The theorems stand in proofs/Promises.
use Rattle.std.specs.Prelude.{ℕ, ◌+◌, ◌*◌, ◌≤◌, List, [], ◌∷◌, ◌++◌, ◌≡◌, ℤ, length}
use Rattle.section.specs.declared.Sheet.{Sheet}
use Rattle.questions.specs.Claims.{◌≤?◌}
use Rattle.section.specs.Working.{worked}
use Rattle.section.specs.Figures.{own_figures, WithinPrinted}
use Rattle.section.specs.Refining.{PrintedNotRaised}
use Rattle.section.specs.Sheets.{sheet_lines, fineness}
use Rattle.lines.specs.Fields.{Field}
use Rattle.lines.specs.Texts.{lines_text, TextOf, FirstBad}
use Rattle.lines.specs.Reading.{values, read_lines}
use Rattle.certificate.specs.Keys.{sheet_fields, figure_fields, certificate_fields}
use Rattle.questions.specs.declared.Answer.{Answer}
use Rattle.questions.specs.Answers.{answer}
use Rattle.questions.specs.Reasons.{Lined, ◌at_line◌, lined_from, AllSo, Reason}
use Rattle.questions.specs.Outcomes.{written}
use Rattle.certificate.specs.Reasons.{lines_of_questions}
use Rattle.certificate.specs.Certificates.{sheet_values, figure_values, certificate_of, sheet_shown, figures_shown, agreeing}
use Rattle.certificate.specs.Outcome.{outcome, outcome_of}

-- Are all lines there, spelt as the paper says, with nothing behind the last? They show the sheet q.
pub record Question1 (s : List ℕ) (q : Sheet) : Type 0 where
  pub text : TextOf sheet_fields (sheet_values q) s

-- Writing: does the certificate fit the buffer? No: 12, line 0.
unfoldable pub lines12 : ℕ → Sheet → List Lined
lines12 room q = (length (certificate_of q) ≤? room at_line 0) ∷ []

-- Checking: do the lines behind the sheet's agree with the working? No: 13, first that differs.
unfoldable pub lines13 : List ℤ → Sheet → List Lined
lines13 vs q = lined_from (sheet_lines + 1) (agreeing vs q)

-- the claims of writing, and those of checking, which passes over the twelfth question, each with the line that the paper names for it
unfoldable pub lines_of_writing : ℕ → Sheet → List (List Lined)
lines_of_writing room q = lines_of_questions q ++ (lines12 room q ∷ [])

unfoldable pub lines_of_checking : List ℤ → Sheet → List (List Lined)
lines_of_checking vs q = lines_of_questions q ++ ([] ∷ lines13 vs q ∷ [])

-- s shows a sheet that meets questions 2 to 12, and t is its certificate
pub record Written (s : List ℕ) (room : ℕ) (t : List ℕ) : Type 0 where
  pub sheet : Sheet
  pub question1 : Question1 s sheet
  pub questions : AllSo (lines_of_writing room sheet)
  pub text : t ≡ certificate_of sheet

-- of the lines of T, one is the first that is bad, and a names it: 1, first bad or missing line
pub record Misspelt (T : List Field) (s : List ℕ) (a : Answer) : Type 0 where
  pub line : ℕ
  pub bad : FirstBad T s line
  pub reported : a ≡ answer 1 line 0

-- why numbers are refused with a
abbrev pub NumbersUnmet : Sheet → ℕ → Answer → Type 0
NumbersUnmet q room a = Reason 2 (lines_of_writing room q) (length (certificate_of q)) a

-- s shows a sheet that is refused, with the reason
pub record SheetUnmet (s : List ℕ) (room : ℕ) (a : Answer) : Type 0 where
  pub sheet : Sheet
  pub question1 : Question1 s sheet
  pub reason : NumbersUnmet sheet room a

-- the same of a certificate whose lines have these values
pub record Unlike (c : List ℕ) (a : Answer) : Type 0 where
  pub shown : List ℤ
  pub text : TextOf certificate_fields shown c
  pub reason : Reason 2 (lines_of_checking shown (sheet_shown shown)) 0 a

-- some sheet, given room, is written as c
pub record Issued (c : List ℕ) : Type 0 where
  pub sheet : List ℕ
  pub room : ℕ
  pub writes : outcome sheet room ≡ written c

-- The third demand, of a sheet q whose own lines are the bytes s, and of c: c is these lines, and behind them the six of the working at our
-- scale, which is the sheet's own (W-204), fineness × 1,000,000; its lines are read back from its bytes; and the section q, worked at m times our
-- scale, holds what they show, whatever m is.
pub record HoldsFinerWorkings (q : Sheet) (s c : List ℕ) : Type 0 where
  pub own_lines_first : c ≡ s ++ lines_text figure_fields (figure_values (own_figures q))
  pub shown : List ℤ
  pub read : read_lines certificate_fields c ≡ values shown
  pub held : (m : ℕ) → 1 ≤ m
      → WithinPrinted (m * fineness q) (figures_shown shown) (sheet_shown shown).allow (sheet_shown shown).fyb (sheet_shown shown).gm0
      (worked (m * fineness q) q)

-- a sheet's own lines, where it is given as numbers
abbrev pub own_lines : Sheet → List ℕ
own_lines q = lines_text sheet_fields (sheet_values q)

-- a certificate is written, and holds what it shows
pub record WrittenAndHeld (q : Sheet) (s : List ℕ) (writes : List ℕ → Type 0) : Type 0 where
  pub certificate : List ℕ
  pub written : writes certificate
  pub holds : HoldsFinerWorkings q s certificate

-- c was written for a sheet that s shows and that meets the questions, and holds what it shows
pub record HeldForItsSheet (s : List ℕ) (room : ℕ) (c : List ℕ) : Type 0 where
  pub sheet : Sheet
  pub question1 : Question1 s sheet
  pub questions : AllSo (lines_of_writing room sheet)
  pub holds : HoldsFinerWorkings sheet s c

-- and of all: for every sheet that meets the questions of writing, as text or as numbers, in any room, a certificate is written and holds what it
-- shows; and whatever is written is so for such a sheet
pub record FinerWorkingsHeld : Type 0 where
  pub of_text : (s : List ℕ) (q : Sheet) (room : ℕ) → Question1 s q → AllSo (lines_of_writing room q)
      → WrittenAndHeld q s (λ c. outcome s room ≡ written c)
  pub of_numbers : (q : Sheet) (room : ℕ) → AllSo (lines_of_writing room q) → WrittenAndHeld q (own_lines q) (λ c. outcome_of q room ≡ written c)
  pub text_written : (s : List ℕ) (room : ℕ) (c : List ℕ) → outcome s room ≡ written c → HeldForItsSheet s room c
  pub numbers_written : (q : Sheet) (room : ℕ) (c : List ℕ) → outcome_of q room ≡ written c
      → AllSo (lines_of_writing room q) × HoldsFinerWorkings q (own_lines q) c

-- c is written for the sheet q, as a text that shows it or as numbers, in some room
pub data WrittenFor (q : Sheet) (c : List ℕ) : Type 0 where
  as_text : (s : List ℕ) (room : ℕ) → Question1 s q → outcome s room ≡ written c → WrittenFor q c
  as_numbers : (room : ℕ) → outcome_of q room ≡ written c → WrittenFor q c

-- Refining never goes upward (W-205), of the certificates of a sheet with fewer rounds and with more: the lines of both are read back from their
-- bytes, and chi1 and chi2 of the second show at most what those of the first show.
pub record FactorsNotRaised (fewer more : List ℕ) : Type 0 where
  pub fewer_shown : List ℤ
  pub fewer_read : read_lines certificate_fields fewer ≡ values fewer_shown
  pub more_shown : List ℤ
  pub more_read : read_lines certificate_fields more ≡ values more_shown
  pub factors : PrintedNotRaised (figures_shown more_shown) (figures_shown fewer_shown)
