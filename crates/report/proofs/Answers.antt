-- What is printed of what a call does.
use Rattle.std.specs.Prelude.{Result, Ok, Err}
use Prim.Native.Nat.{ℕ}
use mathlib.Core.List.{List}
use mathlib.Core.Path.{◌≡◌, refl, sym, ap, ◌∙◌}
use lib.ListN.{length}
use Rattle.questions.specs.Buffers.{over}
use Rattle.questions.specs.declared.Answer.{Answer}
use Rattle.questions.specs.Outcomes.{Outcome, refused, written, written_if_met, length_of, buffer_after}
use Rattle.certificate.specs.declared.Refusal.{Refusal}
use Rattle.certificate.specs.Refusals.{refusal_answer}
use Rattle.certificate.specs.Outcome.{outcome, checked, check_outcome}
use Rattle.certificate.proofs.Laws.{longest_certificate}
use Rattle.report.specs.Printed.{number_line, refusal_lines, outcome_prints, certify_prints, found_prints, verify_prints}

module _ {R : Type 0} (told : R → Answer) where
  pub refused_prints : (r : R) → outcome_prints told (refused r) ≡ refusal_lines (told r)
  unfolding outcome_prints
  refused_prints r = refl

  -- a text that was written is printed, and stands at the buffer's front
  pub text_printed : (o : Outcome R) (b : List ℕ) {n : ℕ} → ◌≡◌ {A = Result ℕ R} (Ok n) (length_of o)
      → (n ≡ length (outcome_prints told o)) × (buffer_after o b ≡ over (outcome_prints told o) b)
  unfolding outcome_prints buffer_after
  text_printed (written t) b e = (cc, refl)
  text_printed (refused r) b e = cc

  -- with a refusal the buffer is as it was, and the two lines are printed
  pub refusal_printed : (o : Outcome R) (b : List ℕ) {r : R} → ◌≡◌ {A = Result ℕ R} (Err r) (length_of o)
      → (refusal_lines (told r) ≡ outcome_prints told o) × (buffer_after o b ≡ b)
  unfolding outcome_prints buffer_after
  refusal_printed (written t) b e = cc
  refusal_printed (refused s) b {r} e = let same : r ≡ s = cc in (ap (λ (x : R). refusal_lines (told x)) same, refl)

-- A buffer of the room of the longest certificate.
pub certified_prints : (s b : List ℕ) → 289 ≡ length b → outcome_prints refusal_answer (outcome s (length b)) ≡ certify_prints s
unfolding certify_prints
certified_prints s b e = ap (λ (n : ℕ). outcome_prints refusal_answer (outcome s n)) (sym e ∙ sym longest_certificate)

-- Checking: what is printed of a length, or of a refusal.
abbrev pub length_prints : Result ℕ Refusal → List ℕ
length_prints (Ok n) = number_line "passed=" n
length_prints (Err r) = refusal_lines (refusal_answer r)

found_length : (c : List ℕ) (f : Result Unit Refusal) → length_prints (length_of (written_if_met f c)) ≡ found_prints c f
unfolding found_prints written_if_met
found_length c (Ok tt) = refl
found_length c (Err r) = refl

pub verified_prints : (c : List ℕ) → length_prints (length_of (check_outcome c)) ≡ verify_prints c
unfolding check_outcome verify_prints
verified_prints c = found_length c (checked c)
