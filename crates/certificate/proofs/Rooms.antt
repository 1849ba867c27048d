-- How much room is enough for a certificate, and how many bytes of the input decide.
use Rattle.std.specs.Prelude.{Result, Ok, Err}
use Prim.Native.Nat.{ℕ, ◌≤◌, ◌<◌}
use mathlib.Core.List.{List}
use mathlib.Core.Logic.{⊎_elim}
use mathlib.Core.Path.{◌≡◌, refl, ap, ◌∙◌}
use native.Mathlib.Omega.{arith}
use lib.ListN.{length, take}
use lib.Seq.{take_all}
use Rattle.section.specs.declared.Sheet.{Sheet}
use Rattle.lines.specs.Texts.{longest}
use Rattle.lines.specs.Reading.{Reading}
use Rattle.lines.proofs.Laws.{cut_behind}
use Rattle.certificate.specs.Keys.{sheet_fields, certificate_fields}
use Rattle.questions.specs.declared.Answer.{Answer}
use Rattle.certificate.specs.declared.Refusal.{Refusal}
use Rattle.certificate.specs.Refusals.{refusal_answer}
use Rattle.certificate.specs.Reasons.{lines_on_numbers, lines_of_questions}
use Rattle.certificate.specs.Certificates.{read_sheet, sheet_in}
use Rattle.certificate.specs.Outcome.{outcome_of, outcome_read, outcome, checked_read, checked}
use Rattle.questions.specs.Outcomes.{written, written_if_met, answer_of}
use Rattle.certificate.specs.Outcome.{check_outcome}
use Rattle.certificate.specs.Promises.{lines12, lines_of_writing, NumbersUnmet}
use Rattle.certificate.proofs.Theorems.{so_is_allowed}
use Rattle.certificate.proofs.Shown.{length_most}
use Rattle.certificate.proofs.Written.{numbers_written, numbers_refused, claims_are, sheet_written, sheet_refused}
use Rattle.certificate.proofs.Checked.{passes_when_issued}

-- A written certificate is no longer than the longest.
pub numbers_length : (q : Sheet) (room : ℕ) (t : List ℕ) → outcome_of q room ≡ written t → length t ≤ longest certificate_fields
numbers_length q room t e =
    let h = (numbers_written q room t).0 e in
    omega (arith, ap length h.1, length_most q ((so_is_allowed q).0 ((claims_are q room).0 h.0).0).0)

pub sheet_length : (s : List ℕ) (room : ℕ) (t : List ℕ) → outcome s room ≡ written t → length t ≤ longest certificate_fields
sheet_length s room t e =
    let h = (sheet_written s room t).0 e in
    omega (arith, ap length h.text, length_most h.sheet ((so_is_allowed h.sheet).0 ((claims_are h.sheet room).0 h.questions).0).0)

-- So a room of the longest never is too small, for numbers and for text.
module _ (room : ℕ) (enough : longest certificate_fields ≤ room) where
  not_unmet : (q : Sheet) (a : Answer) → a.refusal ≡ 12 → NumbersUnmet q room a → ⊥
  unfolding lines_of_writing lines_of_questions lines_on_numbers lines12
  not_unmet q a e h =
      let sound = ((so_is_allowed q).0 (rw e at h.before)).0 in
      ⊎_elim (λ n. n.0 (omega (arith, enough, length_most q sound))) (λ n. n.1) (rw e at h.first)

  pub room_for_numbers : (q : Sheet) → (answer_of refusal_answer (outcome_of q room)).refusal ≡ 12 → ⊥
  room_for_numbers q e =
      let a = answer_of refusal_answer (outcome_of q room) in
      not_unmet q a e ((numbers_refused q room a).0 (record { is = refl; number = omega (arith, e) }))

  pub room_for_text : (s : List ℕ) → (answer_of refusal_answer (outcome s room)).refusal ≡ 12 → ⊥
  room_for_text s e =
      let a = answer_of refusal_answer (outcome s room) in
      ⊎_elim
      (λ m. omega (arith, e, ap (λ (x : Answer). x.refusal) m.reported))
      (λ u. not_unmet u.sheet a e u.reason)
      ((sheet_refused s room a).0 (record { is = refl; number = omega (arith, e) }))

-- No byte behind the longest text and one more decides.
pub cut_sheet : (s : List ℕ) (m room : ℕ) → longest sheet_fields < m → outcome (take m s) room ≡ outcome s room
unfolding outcome sheet_in
cut_sheet s m room h = ap (λ (r : Reading). outcome_read (read_sheet r) room) (cut_behind sheet_fields m s h)

same_answer : (c : List ℕ) (m : ℕ) (f : Result Unit Refusal) → longest certificate_fields < m → checked c ≡ f
    → answer_of refusal_answer (written_if_met f (take m c)) ≡ answer_of refusal_answer (written_if_met f c)
unfolding written_if_met
same_answer c m (Err r) h e = refl
same_answer c m (Ok tt) h e =
    let i = (passes_when_issued c).0 e in
    ap (λ (l : List ℕ). answer_of refusal_answer (written_if_met (Ok tt) l)) (take_all m c (omega (arith, h, sheet_length i.sheet i.room c i.writes)))

pub cut_certificate : (c : List ℕ) (m : ℕ) → longest certificate_fields < m → answer_of refusal_answer (check_outcome (take m c)) ≡ answer_of refusal_answer (check_outcome c)
unfolding check_outcome checked
cut_certificate c m h =
    ap (λ (r : Reading). answer_of refusal_answer (written_if_met (checked_read r) (take m c))) (cut_behind certificate_fields m c h)
    ∙ same_answer c m (checked c) h refl
