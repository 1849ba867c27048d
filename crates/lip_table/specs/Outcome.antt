-- The questions on a ratio and on a buffer, and what is answered. (docs/WORKING.md, 15.2.)
use Rattle.std.specs.Prelude.{ℕ, ◌≤◌, ◌≡◌, ◌≢◌, refl, List, [], ◌∷◌, Result, Ok, Err}
use lib.Dec.{lit≤}
use Rattle.questions.specs.declared.Answer.{Answer}
use Rattle.questions.specs.Answers.{answer, AnswerLaws}
use Rattle.questions.specs.Claims.{◌≤?◌, ◌and◌}
use Rattle.questions.specs.Asking.{Asked, ◌else◌, first_of}
use Rattle.questions.specs.Outcomes.{Outcome, fitted}
use Rattle.lip_table.specs.declared.Coefficient.{Coefficient}
use Rattle.lip_table.specs.declared.LipRefusal.{LipRefusal}
use Rattle.lip_table.specs.declared.LipRefusal.TheVariants.{Ratio, Room}
use Rattle.lip_table.specs.Tables.{least_ratio, most_ratio, table_text, ends}

-- number, line and length: the line is 0, and the length except at 12
abbrev pub lip_answer : LipRefusal → Answer
lip_answer Ratio = answer 16 0 0
lip_answer (Room len) = answer 12 0 len

-- each has a number, and a length only at 12
numbered : (r : LipRefusal) → 1 ≤ (lip_answer r).refusal
numbered Ratio = lit≤ tt
numbered (Room len) = lit≤ tt

no_length : (r : LipRefusal) → (lip_answer r).refusal ≢ 12 → (lip_answer r).length ≡ 0
no_length Ratio n = refl
no_length (Room len) n = absurd (n refl)

pub lip_laws : AnswerLaws lip_answer
lip_laws = record { numbered = numbered; no_length = no_length }

-- Is the ratio one of 0.350 to 0.600? No: 16.
abbrev pub question16 : ℕ → List (Asked LipRefusal)
question16 ratio = (least_ratio ≤? ratio and ratio ≤? most_ratio else Ratio) ∷ []

-- an answer with two ends
abbrev pub told_with : Answer → ℕ → ℕ → Coefficient
told_with a low high = record { refusal = a.refusal; line = a.line; length = a.length; lower = low; upper = high }

-- a lookup, where the question finds this: the ends of the table, or none
unfoldable pub told : ℕ → Result Unit LipRefusal → Coefficient
told ratio (Ok u) = told_with (answer 0 0 0) (ends ratio).lo (ends ratio).hi
told ratio (Err r) = told_with (lip_answer r) 0 0

unfoldable pub coefficient_at : ℕ → Coefficient
coefficient_at ratio = told ratio (first_of (question16 ratio))

-- the ends, as the code finds them, or the refusal
abbrev pub ends_if : Result Unit LipRefusal → ℕ → Result (ℕ × ℕ) LipRefusal
ends_if (Ok u) ratio = Ok ((ends ratio).lo, (ends ratio).hi)
ends_if (Err r) ratio = Err r

abbrev pub found_ends : ℕ → Result (ℕ × ℕ) LipRefusal
found_ends ratio = ends_if (first_of (question16 ratio)) ratio

-- writing the table into a buffer of this room, if it fits
unfoldable pub table_outcome : ℕ → Outcome LipRefusal
table_outcome room = fitted Room room table_text
