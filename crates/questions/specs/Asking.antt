-- Questions asked in order, over any type R of refusals: the first "no" decides. (docs/WORKING.md, 15.)
use Rattle.std.specs.Prelude.{ℕ, ◌+◌, Bool, true, false, cond, List, [], ◌∷◌, Option, None, Some, Result, Ok, Err}
use Rattle.questions.specs.Claims.{Claim, test}

-- what is asked, and the refusal where it is not so
infix 30 ◌else◌
pub data Asked (R : Type 0) : Type 0 where
  ◌else◌ : Claim → R → Asked R

-- a claim to each line, the first of them on this line, each with the refusal that names its line
unfoldable pub asked_from : {R : Type 0} → (ℕ → R) → ℕ → List Claim → List (Asked R)
asked_from refuse line [] = []
asked_from refuse line (a ∷ cs) = (a else refuse line) ∷ asked_from refuse (line + 1) cs

-- what is found where, of claims that go line by line from this one, the first that is not so stands at a place, counted from 0, or none does
abbrev pub found_at : {R : Type 0} → (ℕ → R) → ℕ → Option ℕ → Result Unit R
found_at refuse line None = Ok tt
found_at refuse line (Some i) = Err (refuse (i + line))

-- what one question finds: that it is met, or the refusal
abbrev pub asked : {R : Type 0} → Bool → R → Result Unit R
asked true r = Ok tt
asked false r = Err r

-- the first "no" of the claims of one question, and of several questions
unfoldable pub first_of : {R : Type 0} → List (Asked R) → Result Unit R
first_of [] = Ok tt
first_of ((a else r) ∷ cs) = cond (test a) (first_of cs) (Err r)

-- where the first is met, the second is asked
infixr 40 ◌then◌
abbrev pub ◌then◌ : {R : Type 0} → Result Unit R → Result Unit R → Result Unit R
(Ok u) then f = f
(Err r) then f = Err r

unfoldable pub first_in : {R : Type 0} → List (List (Asked R)) → Result Unit R
first_in [] = Ok tt
first_in (cs ∷ qs) = first_of cs then first_in qs
