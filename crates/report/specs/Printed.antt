-- What the programs print for the bytes that they read. (Document 01, "Sheet and certificate": "A program reads a sheet from standard
-- input and prints the certificate, or the two lines refused= and line=, each with its number.")
use Rattle.std.specs.Prelude.{ℕ, List, ◌++◌, pos, length, Result, Ok, Err}
use Prim.Native.String.{String}
use Rattle.lines.specs.declared.keys.Kind.TheVariants.{Number}
use Rattle.lines.specs.Texts.{line_text, longest}
use Rattle.questions.specs.declared.Answer.{Answer}
use Rattle.questions.specs.Outcomes.{Outcome, refused, written}
use Rattle.certificate.specs.declared.Refusal.{Refusal}
use Rattle.certificate.specs.Keys.{◌holds◌, certificate_fields}
use Rattle.certificate.specs.Refusals.{refusal_answer}
use Rattle.certificate.specs.Outcome.{outcome, checked}

-- a line key=number; the key has its '='
unfoldable pub number_line : String → ℕ → List ℕ
number_line key n = line_text (key holds Number) (pos n)

-- the two lines of a refusal
unfoldable pub refusal_lines : Answer → List ℕ
refusal_lines a = number_line "refused=" a.refusal ++ number_line "line=" a.line

-- of what a call does that writes a text or refuses, over any refusals
unfoldable pub outcome_prints : {R : Type 0} → (R → Answer) → Outcome R → List ℕ
outcome_prints told (written t) = t
outcome_prints told (refused r) = refusal_lines (told r)

-- `certify`, for a sheet: its certificate, the room being that of the longest, or the refusal
unfoldable pub certify_prints : List ℕ → List ℕ
certify_prints s = outcome_prints refusal_answer (outcome s (longest certificate_fields))

-- of what checking finds in the certificate c
unfoldable pub found_prints : List ℕ → Result Unit Refusal → List ℕ
found_prints c (Ok tt) = number_line "passed=" (length c)
found_prints c (Err r) = refusal_lines (refusal_answer r)

-- `verify`, for a certificate: that it passed, with its length, or the refusal
unfoldable pub verify_prints : List ℕ → List ℕ
verify_prints c = found_prints c (checked c)
