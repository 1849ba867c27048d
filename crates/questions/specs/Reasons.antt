-- What it says that questions are met, or that one of them refuses with an answer. (docs/WORKING.md, 15.)
use Rattle.std.specs.Prelude.{ℕ, ◌+◌, ◌-◌, ◌≤◌, cond, List, [], ◌∷◌, ◌≡◌, ◌⊎◌, eqb, take, get_or, Result, Err}
use Rattle.questions.specs.declared.Answer.{Answer}
use Rattle.questions.specs.Claims.{Claim, Holds}

-- a claim, and the line that is reported where it is not so
infix 30 ◌at_line◌
pub data Lined : Type 0 where
  ◌at_line◌ : Claim → ℕ → Lined

-- a claim to each line, the first of them on this line
unfoldable pub lined_from : ℕ → List Claim → List Lined
lined_from line [] = []
lined_from line (a ∷ cs) = (a at_line line) ∷ lined_from (line + 1) cs

-- all that a question claims is so, and all that several claim
abbrev pub So : List Lined → Type 0
So [] = Unit
So ((a at_line l) ∷ cs) = Holds a × So cs

abbrev pub AllSo : List (List Lined) → Type 0
AllSo [] = Unit
AllSo (cs ∷ qs) = So cs × AllSo qs

-- the line stands at the first claim that is not so
abbrev pub FirstNo : List Lined → ℕ → Type 0
FirstNo [] line = ⊥
FirstNo ((a at_line l) ∷ cs) line = ((Holds a → ⊥) × (l ≡ line)) ⊎ (Holds a × FirstNo cs line)

-- Questions numbered from k on. The place of an answer's question among them.
abbrev pub place : ℕ → Answer → ℕ
place k a = a.refusal - k

-- the length that is reported with a number: 0 except at 12, where it is the length needed
abbrev pub length_reported : ℕ → ℕ → ℕ
length_reported needed number = cond (eqb number 12) needed 0

-- Why a is answered to the questions qs, numbered from k on: those before the one that bears its number are met, its line stands at the first
-- "no" within that one, and the length is 0 but for the one needed.
pub record Reason (k : ℕ) (qs : List (List Lined)) (needed : ℕ) (a : Answer) : Type 0 where
  pub numbered : k ≤ a.refusal
  pub before : AllSo (take (place k a) qs)
  pub first : FirstNo (get_or qs (place k a) []) a.line
  pub size : a.length ≡ length_reported needed a.refusal

-- questions find a refusal whose answer is a
pub record FoundAs {R : Type 0} (refusal_answer : R → Answer) (f : Result Unit R) (a : Answer) : Type 0 where
  pub what : R
  pub found : f ≡ Err what
  pub tells : refusal_answer what ≡ a

-- a call answers a, and refuses
pub record Refuses (answered a : Answer) : Type 0 where
  pub is : answered ≡ a
  pub number : 1 ≤ a.refusal
