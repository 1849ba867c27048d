-- What a call does that may write a text into a buffer, what it answers, and what the buffer is afterwards. (docs/WORKING.md, 15.)
use Rattle.std.specs.Prelude.{ℕ, List, [], ◌∷◌, length, Result, Ok, Err}
use Rattle.questions.specs.Buffers.{over}
use Rattle.questions.specs.declared.Answer.{Answer}
use Rattle.questions.specs.Claims.{◌≤?◌}
use Rattle.questions.specs.Answers.{answered}
use Rattle.questions.specs.Asking.{Asked, ◌else◌, first_of}

-- it refuses, or this text is written
pub data Outcome (R : Type 0) : Type 0 where
  refused : R → Outcome R
  written : List ℕ → Outcome R

module _ {R : Type 0} where
  -- what is written where no question refuses
  unfoldable pub written_if_met : Result Unit R → List ℕ → Outcome R
  written_if_met (Err r) t = refused r
  written_if_met (Ok tt) t = written t

  -- Does it fit the buffer? No: 12, with the length needed.
  unfoldable pub fitting : (ℕ → R) → ℕ → List ℕ → List (Asked R)
  fitting short room t = (length t ≤? room else short (length t)) ∷ []

  -- a text that is to be written
  unfoldable pub fitted : (ℕ → R) → ℕ → List ℕ → Outcome R
  fitted short room t = written_if_met (first_of (fitting short room t)) t

  -- the buffer afterwards, which a refusal leaves as it was
  unfoldable pub buffer_after : Outcome R → List ℕ → List ℕ
  buffer_after (refused r) b = b
  buffer_after (written t) b = over t b

  -- how many bytes are written, or the refusal
  abbrev pub length_of : Outcome R → Result ℕ R
  length_of (refused r) = Err r
  length_of (written t) = Ok (length t)

  -- what is answered: the length of the text that was written
  abbrev pub answer_of : (R → Answer) → Outcome R → Answer
  answer_of told o = answered told (length_of o)

  -- the same for a call that is passed the buffer b, o being what happens in each room
  abbrev pub length_in : (ℕ → Outcome R) → List ℕ → Result ℕ R
  length_in o b = length_of (o (length b))

  abbrev pub answer_in : (R → Answer) → (ℕ → Outcome R) → List ℕ → Answer
  answer_in told o b = answer_of told (o (length b))

  abbrev pub buffer_in : (ℕ → Outcome R) → List ℕ → List ℕ
  buffer_in o b = buffer_after (o (length b)) b
