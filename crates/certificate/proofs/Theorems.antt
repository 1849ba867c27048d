-- What is proved of the questions on a sheet's numbers, in one place.
use Rattle.std.specs.Prelude.{Result, Ok, Err}
use mathlib.Core.Path.{◌≡◌, refl}
use mathlib.Core.Logic.{◌↔◌, inl, ⊎_elim}
use mathlib.Core.List.{List, [], ◌∷◌, ◌++◌}
use native.Mathlib.Omega.{arith}
use Rattle.section.specs.declared.Sheet.{Sheet}
use Rattle.section.specs.Sheets.{fineness}
use Rattle.section.specs.Sound.{Sound}
use Rattle.section.specs.Figures.{Printed, own_figures, Question11}
use Rattle.certificate.specs.declared.Refusal.{Refusal}
use Rattle.questions.specs.Asking.{first_in}
use Rattle.certificate.specs.Questions.{on_numbers, questions, first_refusal, judged, verdict}
use Rattle.questions.specs.declared.Answer.{Answer}
use Rattle.questions.specs.Answers.{answer}
use Rattle.certificate.specs.Refusals.{refusal_answer}
use Rattle.questions.specs.Reasons.{Lined, AllSo, Reason, FoundAs}
use Rattle.certificate.specs.Reasons.{lines_on_numbers, lines11, lines_of_questions, JudgedAs}
use Rattle.questions.proofs.Laws.{met_when_so, found_with_reason}
use Rattle.certificate.proofs.Ties.{So-in_range, on_numbers_told, questions_told}

-- the claims of questions 2 to 10 are what section's theorems ask for
pub so_is_sound : (q : Sheet) → AllSo (lines_on_numbers q) ↔ Sound q
unfolding lines_on_numbers
so_is_sound q = (
  λ h. record {
    q2 = (So-in_range q).0 h.0;
    q3 = omega (arith, h.1.0);
    q4 = omega (arith, h.1.1.0);
    q5 = omega (arith, h.1.1.1.0);
    q6 = omega (arith, h.1.1.1.1.0);
    q7 = omega (arith, h.1.1.1.1.1.0);
    q8 = omega (arith, h.1.1.1.1.1.1.0);
    q9 = omega (arith, h.1.1.1.1.1.1.1.0);
    q10 = record { form = h.1.1.1.1.1.1.1.1.0.0 };
  },
  λ s. (
    (So-in_range q).1 s.q2,
    (
      omega (arith, s.q3),
      (omega (arith, s.q4), (omega (arith, s.q5), (omega (arith, s.q6), (omega (arith, s.q7), (omega (arith, s.q8), (omega (arith, s.q9), ((s.q10.form, tt), tt))))))),
    ),
  ),
)

pub so_of_both : (ls ms : List (List Lined)) → AllSo (ls ++ ms) ↔ (AllSo ls × AllSo ms)
so_of_both [] ms = (λ h. (tt, h), λ h. h.1)
so_of_both (l ∷ ls) ms =
    let r = so_of_both ls ms in
    (λ h. ((h.0, (r.0 h.1).0), (r.0 h.1).1), λ h. (h.0.0, r.1 (h.0.1, h.1)))

-- and those of question 11 with them
pub so_is_allowed : (q : Sheet) → AllSo (lines_of_questions q) ↔ (Sound q × Question11 (fineness q) q)
unfolding lines_of_questions lines11
so_is_allowed q =
    let both = so_of_both (lines_on_numbers q) (lines11 q ∷ []) in
    let sound = so_is_sound q in
    (λ h. let b = both.0 h in (sound.0 b.0, record { allowed = b.1.0.0 }), λ h. both.1 (sound.1 h.0, ((h.1.allowed, tt), tt)))

-- no question up to the tenth refuses a sheet exactly where it meets them
pub met_is_sound : (q : Sheet) → (first_refusal q ≡ Ok tt) ↔ Sound q
unfolding first_refusal
met_is_sound q =
    let met = met_when_so refusal_answer 0 2 (on_numbers q) (lines_on_numbers q) (on_numbers_told q 0) in
    let sound = so_is_sound q in
    (λ e. sound.0 (met.0 e), λ s. met.1 (sound.1 s))

-- and one refuses it exactly where there is a reason: the questions before are met, its own is not, its line is the first
pub refused_with_reason : (q : Sheet) (a : Answer) → FoundAs refusal_answer (first_refusal q) a ↔ Reason 2 (lines_on_numbers q) 0 a
unfolding first_refusal
refused_with_reason q a = found_with_reason refusal_answer 0 2 (on_numbers q) (lines_on_numbers q) (on_numbers_told q 0) a

pub judged_refused : (f : Result Unit Refusal) (p : Printed) (r : Refusal) → (judged f p ≡ Err r) ↔ (f ≡ Err r)
judged_refused (Ok tt) p r = (λ e. cc, λ e. cc)
judged_refused (Err r₀) p r = (λ e. cc, λ e. cc)

pub judged-accepted : (f : Result Unit Refusal) (p p' : Printed) → (judged f p ≡ Ok p') ↔ ((f ≡ Ok tt) × (p' ≡ p))
judged-accepted (Ok tt) p p' = (λ e. (refl, cc), λ h. cc h.1)
judged-accepted (Err r) p p' = (λ e. cc, λ h. cc h.0)

-- a sheet is accepted exactly where it meets questions 2 to 11, and then with its figures
pub accepted_is_met : (q : Sheet) (p : Printed) → (verdict q ≡ Ok p) ↔ (Sound q × Question11 (fineness q) q × (p ≡ own_figures q))
unfolding verdict
accepted_is_met q p =
    let j = judged-accepted (first_in (questions q)) (own_figures q) p in
    let met = met_when_so refusal_answer 0 2 (questions q) (lines_of_questions q) (questions_told q 0) in
    let allowed = so_is_allowed q in (
      λ e. let h = allowed.0 (met.0 (j.0 e).0) in (h.0, h.1, (j.0 e).1),
      λ h. j.1 (met.1 (allowed.1 (h.0, h.1)), h.2),
    )

-- and refused exactly where there is a reason
pub verdict_with_reason : (q : Sheet) (a : Answer) → JudgedAs (verdict q) a ↔ Reason 2 (lines_of_questions q) 0 a
unfolding verdict
verdict_with_reason q a =
    let j = judged_refused (first_in (questions q)) (own_figures q) in
    let r = found_with_reason refusal_answer 0 2 (questions q) (lines_of_questions q) (questions_told q 0) a in (
      λ v. r.0 (record { what = v.refusal; found = (j v.refusal).0 v.judged; tells = v.tells }),
      λ h. let f = r.1 h in record { refusal = f.what; judged = (j f.what).1 f.found; tells = f.tells },
    )

-- with 11 exactly where it meets questions 2 to 10, and the area's upper end passes the allowance
pub beyond_the_allowance : (q : Sheet) → JudgedAs (verdict q) (answer 11 12 0) ↔ (Sound q × (Question11 (fineness q) q → ⊥))
unfolding lines_of_questions lines_on_numbers lines11
beyond_the_allowance q =
    let w = verdict_with_reason q (answer 11 12 0) in (
      λ v. let h = w.0 v in ((so_is_sound q).0 h.before, λ m. ⊎_elim (λ n. n.0 m.allowed) (λ n. n.1) h.first),
      λ h. w.1 (record { numbered = omega arith; before = (so_is_sound q).1 h.0; first = inl (λ a. h.1 (record { allowed = a }), refl); size = refl }),
    )
