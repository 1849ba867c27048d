-- What is answered, and left in the buffer, where questions find a refusal, where they find none, and where a text is to be written. Over any type R
-- of refusals, of which `refusal_answer` says what is answered.
use Rattle.std.specs.Prelude.{Result, Ok, Err}
use Prim.Native.Nat.{ℕ, ◌≤◌, ◌<◌}
use mathlib.Core.List.{List, [], ◌∷◌}
use mathlib.Core.Logic.{◌↔◌}
use mathlib.Core.Path.{◌≡◌, refl, sym, ap, ◌∙◌}
use native.Mathlib.Omega.{arith}
use borrow.Author.Tests.{le-leb, lt-leb}
use lib.ListN.{length}
use Rattle.questions.specs.declared.Answer.{Answer}
use Rattle.questions.specs.Answers.{answer}
use Rattle.questions.specs.Asking.{first_of, first_in}
use Rattle.questions.specs.Buffers.{over}
use Rattle.questions.specs.Outcomes.{Outcome, refused, written, written_if_met, fitting, fitted, buffer_after, length_of, answer_of}
use Rattle.questions.specs.Reasons.{FoundAs, Refuses}
use Rattle.questions.proofs.Order.{then_nothing}

module _ {R : Type 0} where
  pub written_not_refused : {t : List ℕ} {r : R} → refused r ≡ written t → ⊥
  written_not_refused e = cc

  pub met_not_refused : {r : R} → ◌≡◌ {A = Result Unit R} (Err r) (Ok tt) → ⊥
  met_not_refused e = cc

  pub if_met-written : (f : Result Unit R) (t u : List ℕ) → (written_if_met f t ≡ written u) ↔ ((f ≡ Ok tt) × (u ≡ t))
  unfolding written_if_met
  if_met-written (Ok tt) t u = (λ e. (refl, cc), λ h. cc h.1)
  if_met-written (Err r) t u = (λ e. cc, λ h. cc h.0)

  pub if_unmet_refused : {f : (Result Unit R)} {r : R} (t : List ℕ) → f ≡ Err r → written_if_met f t ≡ refused r
  unfolding written_if_met
  if_unmet_refused t e = ap (λ (x : Result Unit R). written_if_met x t) e

-- how many bytes are written, and what is left in the buffer
module _ {R : Type 0} {o : Outcome R} where
  pub length_refused : {r : R} → o ≡ refused r → length_of o ≡ Err r
  length_refused e = rw e

  pub buffer_refused : {r : R} (b : List ℕ) → o ≡ refused r → buffer_after o b ≡ b
  unfolding buffer_after
  buffer_refused b e = rw e

  pub length_written : {t : List ℕ} → o ≡ written t → length_of o ≡ Ok (length t)
  length_written e = rw e

  pub buffer_written : {t : List ℕ} (b : List ℕ) → o ≡ written t → buffer_after o b ≡ over t b
  unfolding buffer_after
  buffer_written b e = rw e

-- the twelfth question
module _ {R : Type 0} (short : ℕ → R) (room : ℕ) (t : List ℕ) where
  -- where it is the last one left
  pub asked_last : written_if_met (first_in (fitting short room t ∷ [])) t ≡ fitted short room t
  unfolding fitted first_in
  asked_last = ap (λ (f : Result Unit R). written_if_met f t) (then_nothing (first_of (fitting short room t)))

  pub fits : length t ≤ room → fitted short room t ≡ written t
  unfolding fitted fitting first_of written_if_met
  fits h = rw (le-leb (length t) room h)

  pub too_long : room < length t → fitted short room t ≡ refused (short (length t))
  unfolding fitted fitting first_of written_if_met
  too_long h = rw (lt-leb (length t) room h)

module _ {R : Type 0} (refusal_answer : R → Answer) where
  -- what is answered where a refusal is found, and where none is
  pub found_answered : (f : Result Unit R) (t : List ℕ) (a : Answer) → Refuses (answer_of refusal_answer (written_if_met f t)) a ↔ (FoundAs refusal_answer f a × (1 ≤ a.refusal))
  unfolding written_if_met
  found_answered (Err r) t a = (
    λ h. (record { what = r; found = refl; tells = h.is }, h.number),
    λ h. record { is = let e = h.0.found in cc h.0.tells; number = h.1 },
  )
  found_answered (Ok tt) t a = (
    λ h. absurd (omega (arith, h.number, ap (λ (x : Answer). x.refusal) h.is)),
    λ h. cc h.0.found,
  )

  -- what is answered, and left in the buffer
  module _ (o : Outcome R) (a : Answer) (b : List ℕ) where
    pub answers_refusal : (r : R) → o ≡ refused r → a ≡ refusal_answer r → (a ≡ answer_of refusal_answer o) × (b ≡ buffer_after o b)
    answers_refusal r e h = (h ∙ sym (ap (answer_of refusal_answer) e), sym (buffer_refused b e))

    pub answers_text : (t d : List ℕ) (n : ℕ) → o ≡ written t → n ≡ length t → a ≡ answer 0 0 n → d ≡ over t b → (a ≡ answer_of refusal_answer o) × (d ≡ buffer_after o b)
    answers_text t d n e k h w = (h ∙ ap (answer 0 0) k ∙ sym (ap (answer_of refusal_answer) e), w ∙ sym (buffer_written b e))
