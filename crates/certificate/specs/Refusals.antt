-- What is answered for each refusal: the paper's number, line and length. (docs/WORKING.md, 15.)
use Rattle.std.specs.Prelude.{ℕ, ◌≤◌, ◌≡◌, ◌≢◌, refl}
use lib.Dec.{lit≤}
use Rattle.questions.specs.declared.Answer.{Answer}
use Rattle.questions.specs.Answers.{answer, AnswerLaws}
use Rattle.certificate.specs.declared.Flange.{Flange}
use Rattle.certificate.specs.declared.Flange.TheVariants.{One, Two}
use Rattle.certificate.specs.declared.Refusal.{Refusal}
use Rattle.certificate.specs.declared.Refusal.TheVariants.{Spelling, Range, Thickness, FlangeWidth, LipLength, Depth, LipRatio, Radius, MidLineRatio, Form, Allowance, Room, Figure}

-- the line of a flange's width
abbrev pub flange_line : Flange → ℕ
flange_line One = 3
flange_line Two = 4

-- the length is 0 except at 12
abbrev pub refusal_answer : Refusal → Answer
refusal_answer (Spelling line) = answer 1 line 0
refusal_answer (Range line) = answer 2 line 0
refusal_answer Thickness = answer 3 8 0
refusal_answer (FlangeWidth line) = answer 4 line 0
refusal_answer LipLength = answer 5 5 0
refusal_answer Depth = answer 6 2 0
refusal_answer (LipRatio line) = answer 7 line 0
refusal_answer Radius = answer 8 6 0
refusal_answer (MidLineRatio line) = answer 9 line 0
refusal_answer Form = answer 10 5 0
refusal_answer Allowance = answer 11 12 0
refusal_answer (Room len) = answer 12 0 len
refusal_answer (Figure line) = answer 13 line 0

-- each has a number, and a length only at 12
numbered : (r : Refusal) → 1 ≤ (refusal_answer r).refusal
numbered (Spelling line) = lit≤ tt
numbered (Range line) = lit≤ tt
numbered Thickness = lit≤ tt
numbered (FlangeWidth line) = lit≤ tt
numbered LipLength = lit≤ tt
numbered Depth = lit≤ tt
numbered (LipRatio line) = lit≤ tt
numbered Radius = lit≤ tt
numbered (MidLineRatio line) = lit≤ tt
numbered Form = lit≤ tt
numbered Allowance = lit≤ tt
numbered (Room len) = lit≤ tt
numbered (Figure line) = lit≤ tt

no_length : (r : Refusal) → (refusal_answer r).refusal ≢ 12 → (refusal_answer r).length ≡ 0
no_length (Spelling line) n = refl
no_length (Range line) n = refl
no_length Thickness n = refl
no_length (FlangeWidth line) n = refl
no_length LipLength n = refl
no_length Depth n = refl
no_length (LipRatio line) n = refl
no_length Radius n = refl
no_length (MidLineRatio line) n = refl
no_length Form n = refl
no_length Allowance n = refl
no_length (Room len) n = absurd (n refl)
no_length (Figure line) n = refl

pub refusal_laws : AnswerLaws refusal_answer
refusal_laws = record { numbered = numbered; no_length = no_length }
