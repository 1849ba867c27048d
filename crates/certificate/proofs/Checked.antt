-- When a certificate passes a check, and when it is refused.
use Rattle.std.specs.Prelude.{Result, Ok}
use Prim.Native.Nat.{ℕ}
use mathlib.Core.List.{List, [], ◌∷◌, ◌++◌}
use mathlib.Core.Logic.{◌⊎◌, inl, inr, ⊎_elim, ◌↔◌}
use mathlib.Core.Path.{◌≡◌, refl, sym, ap, ◌∙◌, subst}
use native.Mathlib.Omega.{arith}
use lib.IntN.{ℤ}
use lib.ListN.{length, drop}
use Rattle.section.specs.declared.Sheet.{Sheet}
use Rattle.section.specs.Figures.{own_figures}
use Rattle.section.specs.Sheets.{sheet_lines}
use Rattle.lines.specs.Texts.{lines_text, TextOf}
use Rattle.lines.specs.Reading.{values, bad_line, read_lines}
use Rattle.lines.proofs.Laws.{by_reading, reads_values, reads_bad, spelt_count}
use Rattle.certificate.specs.Keys.{sheet_fields, figure_fields, certificate_fields, certificate_lines}
use Rattle.questions.specs.declared.Answer.{Answer}
use Rattle.certificate.specs.declared.Refusal.{Refusal}
use Rattle.questions.specs.Answers.{answer}
use Rattle.certificate.specs.Refusals.{refusal_answer}
use Rattle.questions.specs.Reasons.{AllSo, Reason, FoundAs, Refuses}
use Rattle.certificate.specs.Reasons.{lines_of_questions}
use Rattle.certificate.specs.Certificates.{sheet_values, figure_values, certificate_values, certificate_of, sheet_shown}
use Rattle.certificate.specs.Outcome.{checking, outcome_of, checked}
use Rattle.questions.specs.Outcomes.{written, written_if_met, answer_of}
use Rattle.certificate.specs.Outcome.{check_outcome}
use Rattle.certificate.specs.Promises.{lines13, lines_of_checking, Misspelt, Unlike, Issued}
use Rattle.questions.proofs.Laws.{met_when_so, found_with_reason, found_answered}
use Rattle.certificate.proofs.Ties.{checking_told, figures_agree}
use Rattle.certificate.proofs.Theorems.{so_of_both, so_is_allowed}
use Rattle.certificate.proofs.Shown.{sheet_back, behind_sheet, split_at_sheet, sheet_spelt, certificate_text_lem}
use Rattle.certificate.proofs.OutcomeSteps.{bad_certificate, right_certificate}
use Rattle.certificate.proofs.Answered.{misspelt_refuses}
use Rattle.certificate.proofs.Written.{numbers_written, claims_are, numbers_as_text, sheet_written}

-- A certificate's bytes.
module _ (c : List ℕ) where
  lines_count : (vs : List ℤ) → read_lines certificate_fields c ≡ values vs → length vs ≡ certificate_lines
  unfolding certificate_fields sheet_fields figure_fields
  lines_count vs g = spelt_count certificate_fields vs ((reads_values certificate_fields c vs).0 g).spelt

  checked_with_reason : (vs : List ℤ) → read_lines certificate_fields c ≡ values vs → (a : Answer)
      → Refuses (answer_of refusal_answer (check_outcome c)) a ↔ Reason 2 (lines_of_checking vs (sheet_shown vs)) 0 a
  unfolding check_outcome
  checked_with_reason vs g a =
      let q = sheet_shown vs in
      let n = lines_count vs g in
      let e = found_answered refusal_answer (checked c) c a in
      let r = found_with_reason refusal_answer 0 2 (checking vs q) (lines_of_checking vs q) (checking_told vs q n) a in
      let same = right_certificate c vs g in (
        λ h. r.0 (subst (λ (f : Result Unit Refusal). FoundAs refusal_answer f a) same (e.0 h).0),
        λ h. e.1 (subst (λ (f : Result Unit Refusal). FoundAs refusal_answer f a) (sym same) (r.1 h), omega (arith, h.numbered)),
      )

  bad_check : (l : ℕ) → read_lines certificate_fields c ≡ bad_line l → answer_of refusal_answer (check_outcome c) ≡ answer 1 l 0
  unfolding check_outcome written_if_met
  bad_check l g = ap (λ (f : Result Unit Refusal). answer_of refusal_answer (written_if_met f c)) (bad_certificate c l g)

  -- it is refused, with its number, line and length, exactly where a line is bad, or there is a reason in its values
  pub check_refused : (a : Answer) → Refuses (answer_of refusal_answer (check_outcome c)) a ↔ (Misspelt certificate_fields c a ⊎ Unlike c a)
  check_refused a = (
    λ h.
        by_reading certificate_fields c
        (λ vs g. inr (record { shown = vs; text = (reads_values certificate_fields c vs).0 g; reason = (checked_with_reason vs g a).0 h }))
        (λ l g. inl (record { line = l; bad = (reads_bad certificate_fields c l).0 g; reported = sym h.is ∙ bad_check l g })),
    ⊎_elim
        (λ m. misspelt_refuses (bad_check m.line ((reads_bad certificate_fields c m.line).1 m.bad)) m.reported)
        (λ u. (checked_with_reason u.shown ((reads_values certificate_fields c u.shown).1 u.text) a).1 u.reason),
  )

  -- what passes meets the questions up to the eleventh, and its lines behind the sheet's are the figures'
  passed_claims : (vs : List ℤ) → read_lines certificate_fields c ≡ values vs
      → (checked c ≡ Ok tt) ↔ (AllSo (lines_of_questions (sheet_shown vs)) × (drop sheet_lines vs ≡ figure_values (own_figures (sheet_shown vs))))
  unfolding lines_of_checking
  passed_claims vs g =
      let q = sheet_shown vs in
      let n = lines_count vs g in
      let same = right_certificate c vs g in
      let met = met_when_so refusal_answer 0 2 (checking vs q) (lines_of_checking vs q) (checking_told vs q n) in
      let both = so_of_both (lines_of_questions q) ([] ∷ lines13 vs q ∷ []) in
      let agree = figures_agree vs q n in (
        λ e. let b = both.0 (met.0 (sym same ∙ e)) in (b.0, agree.0 b.1.1.0),
        λ h. same ∙ met.1 (both.1 (h.0, (tt, (agree.1 h.1, tt)))),
      )

  -- so it is the certificate of the sheet that it shows
  passed_is : (vs : List ℤ) → read_lines certificate_fields c ≡ values vs → checked c ≡ Ok tt → AllSo (lines_of_questions (sheet_shown vs)) × (c ≡ certificate_of (sheet_shown vs))
  unfolding certificate_of certificate_values
  passed_is vs g e =
      let q = sheet_shown vs in
      let t = (reads_values certificate_fields c vs).0 g in
      let p = (passed_claims vs g).0 e in
      let parts = split_at_sheet vs t.spelt ∙ ap (λ (l : List ℤ). sheet_values q ++ l) p.1 in
      (p.0, t.text ∙ ap (lines_text certificate_fields) parts)

  -- and the certificate of a sheet that meets the questions passes
  passes_for : (q : Sheet) → AllSo (lines_of_questions q) → c ≡ certificate_of q → checked c ≡ Ok tt
  unfolding certificate_values
  passes_for q h e =
      let p = figure_values (own_figures q) in
      let vs = certificate_values q in
      let t = subst (TextOf certificate_fields vs) (sym e) (certificate_text_lem q ((so_is_allowed q).0 h).0) in
      let back = sym (sheet_back q p) in
      (passed_claims vs ((reads_values certificate_fields c vs).1 t)).1
      (subst (λ (x : Sheet). AllSo (lines_of_questions x)) back h, subst (λ (x : Sheet). drop sheet_lines vs ≡ figure_values (own_figures x)) back (behind_sheet q p))

-- a certificate of a sheet that meets questions 2 to 11 is written, given room
issued_for : (q : Sheet) → AllSo (lines_of_questions q) → outcome_of q (length (certificate_of q)) ≡ written (certificate_of q)
issued_for q h =
    let room = length (certificate_of q) in
    (numbers_written q room (certificate_of q)).1 ((claims_are q room).1 (h, omega arith), refl)

-- a certificate passes exactly where some sheet, given room, is written as it
pub passes_when_issued : (c : List ℕ) → (checked c ≡ Ok tt) ↔ Issued c
passes_when_issued c = (
  λ e.
      by_reading certificate_fields c
      (λ vs g.
      let q = sheet_shown vs in
      let p = passed_is c vs g e in
      let sound = ((so_is_allowed q).0 p.0).0 in
      record {
        sheet = lines_text sheet_fields (sheet_values q);
        room = length (certificate_of q);
        writes = sym (numbers_as_text q (length (certificate_of q)) (sheet_spelt q sound.q2)) ∙ issued_for q p.0 ∙ ap written (sym p.1);
      })
      (λ l g. let w = sym (bad_certificate c l g) ∙ e in cc),
  λ i.
      let w = (sheet_written i.sheet i.room c).0 i.writes in
      passes_for c w.sheet ((claims_are w.sheet i.room).0 w.questions).0 w.text,
)
