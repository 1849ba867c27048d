-- What a call answers: number, line and length. (docs/WORKING.md, 15.)
use Rattle.std.specs.Prelude.{ℕ, ◌≤◌, ◌≡◌, ◌≢◌, Result, Ok, Err}
use Rattle.questions.specs.declared.Answer.{Answer}

abbrev pub answer : ℕ → ℕ → ℕ → Answer
answer number line len = record { refusal = number; line = line; length = len }

-- what is answered where so many bytes are written, or there is a reason for none
abbrev pub answered : {R : Type 0} → (R → Answer) → Result ℕ R → Answer
answered told (Ok n) = answer 0 0 n
answered told (Err r) = told r

-- what holds of the answers to reasons: each has a number, and a length only at 12
pub record AnswerLaws {R : Type 0} (told : R → Answer) : Type 0 where
  pub numbered : (r : R) → 1 ≤ (told r).refusal
  pub no_length : (r : R) → (told r).refusal ≢ 12 → (told r).length ≡ 0
