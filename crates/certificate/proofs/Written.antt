-- What is written for numbers and for a sheet, and when they are refused.
use Prim.Native.Nat.{ℕ, ◌≤◌}
use mathlib.Core.List.{List, [], ◌∷◌}
use mathlib.Core.Logic.{◌⊎◌, inl, inr, ⊎_elim, ◌↔◌}
use mathlib.Core.Path.{◌≡◌, refl, sym, ap, ◌∙◌, subst}
use native.Mathlib.Omega.{arith}
use lib.IntN.{ℤ}
use lib.ListN.{length}
use Rattle.section.specs.declared.Sheet.{Sheet}
use Rattle.lines.specs.Texts.{lines_text, SpeltIn, TextOf, FirstBad}
use Rattle.lines.specs.Reading.{values, bad_line, read_lines}
use Rattle.lines.proofs.Laws.{by_reading, reads_values, reads_bad, spelt_count}
use Rattle.certificate.specs.Keys.{sheet_fields}
use Rattle.questions.specs.declared.Answer.{Answer}
use Rattle.questions.specs.Answers.{answer}
use Rattle.certificate.specs.Refusals.{refusal_answer}
use Rattle.questions.specs.Asking.{first_in}
use Rattle.questions.specs.Reasons.{AllSo, Refuses}
use Rattle.certificate.specs.Reasons.{lines_of_questions}
use Rattle.certificate.specs.Certificates.{sheet_values, certificate_of, sheet_shown}
use Rattle.certificate.specs.Outcome.{writing, outcome_of, outcome}
use Rattle.questions.specs.Outcomes.{written, answer_of}
use Rattle.certificate.specs.Promises.{Question1, lines12, lines_of_writing, Written, Misspelt, NumbersUnmet, SheetUnmet}
use Rattle.questions.proofs.Laws.{met_when_so, found_with_reason, found_answered, if_met-written}
use Rattle.certificate.proofs.Ties.{writing_told}
use Rattle.certificate.proofs.Theorems.{so_of_both}
use Rattle.certificate.proofs.Shown.{sheet_alone, values_back}
use Rattle.certificate.proofs.OutcomeSteps.{bad_sheet, right_sheet}
use Rattle.certificate.proofs.Answered.{misspelt_refuses}

-- A sheet's numbers.
module _ (q : Sheet) (room : ℕ) where
  -- they are written exactly where they meet questions 2 to 12, and then as their certificate
  pub numbers_written : (t : List ℕ) → (outcome_of q room ≡ written t) ↔ (AllSo (lines_of_writing room q) × (t ≡ certificate_of q))
  unfolding outcome_of
  numbers_written t =
      let s = if_met-written (first_in (writing room q)) (certificate_of q) t in
      let met = met_when_so refusal_answer _ 2 (writing room q) (lines_of_writing room q) (writing_told q room) in
      (λ e. let h = s.0 e in (met.0 h.0, h.1), λ h. s.1 (met.1 h.0, h.1))

  -- and refused, with its number, line and length, exactly where there is a reason
  pub numbers_refused : (a : Answer) → Refuses (answer_of refusal_answer (outcome_of q room)) a ↔ NumbersUnmet q room a
  unfolding outcome_of
  numbers_refused a =
      let e = found_answered refusal_answer (first_in (writing room q)) (certificate_of q) a in
      let r = found_with_reason refusal_answer _ 2 (writing room q) (lines_of_writing room q) (writing_told q room) a in
      (λ h. r.0 (e.0 h).0, λ h. e.1 (r.1 h, omega (arith, h.numbered)))

  -- the claims of writing are those up to the eleventh, and that the certificate fits
  pub claims_are : AllSo (lines_of_writing room q) ↔ (AllSo (lines_of_questions q) × (length (certificate_of q) ≤ room))
  unfolding lines_of_writing lines12
  claims_are =
      let both = so_of_both (lines_of_questions q) (lines12 room q ∷ []) in
      (λ h. let b = both.0 h in (b.0, b.1.0.0), λ h. both.1 (h.0, ((h.1, tt), tt)))

  -- the call with numbers does what `write` does on their text, where they have one
  pub numbers_as_text : SpeltIn sheet_fields (sheet_values q) → outcome_of q room ≡ outcome (lines_text sheet_fields (sheet_values q)) room
  numbers_as_text h =
      let read = (reads_values sheet_fields (lines_text sheet_fields (sheet_values q)) (sheet_values q)).1 (record { spelt = h; text = refl }) in
      sym (right_sheet (lines_text sheet_fields (sheet_values q)) room (sheet_values q) read ∙ ap (λ (x : Sheet). outcome_of x room) (sheet_alone q))

-- A sheet's bytes.
module _ (s : List ℕ) where
  -- what is read shows a sheet, and a sheet's text is read
  pub shows : (vs : List ℤ) → read_lines sheet_fields s ≡ values vs → Question1 s (sheet_shown vs)
  unfolding sheet_fields
  shows vs e =
      let t = (reads_values sheet_fields s vs).0 e in
      record { text = subst (λ (us : List ℤ). TextOf sheet_fields us s) (sym (values_back vs (spelt_count sheet_fields vs t.spelt) t.spelt)) t }

  -- what is done with a text is done with the numbers that it shows
  pub shown : (q : Sheet) (room : ℕ) → Question1 s q → outcome s room ≡ outcome_of q room
  shown q room h =
      right_sheet s room (sheet_values q) ((reads_values sheet_fields s (sheet_values q)).1 h.text) ∙ ap (λ (x : Sheet). outcome_of x room) (sheet_alone q)

  module _ (room : ℕ) where
    -- a sheet is written exactly where it meets questions 1 to 12, and then as its certificate
    pub sheet_written : (t : List ℕ) → (outcome s room ≡ written t) ↔ Written s room t
    sheet_written t = (
      λ e.
          by_reading sheet_fields s
          (λ vs g.
          let h = (numbers_written (sheet_shown vs) room t).0 (sym (right_sheet s room vs g) ∙ e) in
          record { sheet = sheet_shown vs; question1 = shows vs g; questions = h.0; text = h.1 })
          (λ l g. let w = sym (bad_sheet s room l g) ∙ e in cc),
      λ h. shown h.sheet room h.question1 ∙ (numbers_written h.sheet room t).1 (h.questions, h.text),
    )

    bad_answer : (l : ℕ) → read_lines sheet_fields s ≡ bad_line l → answer_of refusal_answer (outcome s room) ≡ answer 1 l 0
    bad_answer l g = ap (answer_of refusal_answer) (bad_sheet s room l g)

    -- and refused, with its number, line and length, exactly where a line is bad, or there is a reason in its numbers
    pub sheet_refused : (a : Answer) → Refuses (answer_of refusal_answer (outcome s room)) a ↔ (Misspelt sheet_fields s a ⊎ SheetUnmet s room a)
    sheet_refused a = (
      λ h.
          by_reading sheet_fields s
          (λ vs g. inr (record {
            sheet = sheet_shown vs;
            question1 = shows vs g;
            reason = (numbers_refused (sheet_shown vs) room a).0 (record { is = ap (answer_of refusal_answer) (sym (right_sheet s room vs g)) ∙ h.is; number = h.number });
          }))
          (λ l g. inl (record { line = l; bad = (reads_bad sheet_fields s l).0 g; reported = sym h.is ∙ bad_answer l g })),
      ⊎_elim
          (λ m. misspelt_refuses (bad_answer m.line ((reads_bad sheet_fields s m.line).1 m.bad)) m.reported)
          (λ u.
          let r = (numbers_refused u.sheet room a).1 u.reason in
          record { is = ap (answer_of refusal_answer) (shown u.sheet room u.question1) ∙ r.is; number = r.number }),
    )

    -- the answer is 1 and line l exactly where l is the first bad line
    pub FirstBad-line : (l : ℕ) → (answer_of refusal_answer (outcome s room) ≡ answer 1 l 0) ↔ FirstBad sheet_fields s l
    FirstBad-line l = (
      λ e.
          ⊎_elim
          (λ m. subst (FirstBad sheet_fields s) (sym (ap (λ (x : Answer). x.line) m.reported)) m.bad)
          (λ u. absurd (omega (arith, u.reason.numbered)))
          ((sheet_refused (answer 1 l 0)).0 (record { is = e; number = omega arith })),
      λ h. bad_answer l ((reads_bad sheet_fields s l).1 h),
    )
