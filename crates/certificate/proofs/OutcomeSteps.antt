-- The steps of the code that writes and checks, each with what it gives.
use Rattle.std.specs.Prelude.{Result, Ok, Err}
use Prim.Native.Nat.{ℕ, ◌+◌, ◌^◌, ◌≤◌, ◌<◌}
use mathlib.Core.List.{List, [], ◌∷◌, ◌++◌}
use mathlib.Core.Path.{◌≡◌, sym, ap, ◌∙◌, subst}
use lib.IntN.{ℤ, pos, nat_abs}
use lib.ListN.{length, get_or, drop}
use Rattle.section.specs.declared.Sheet.{Sheet}
use Rattle.questions.specs.Claims.{◌is◌, pairwise}
use Rattle.section.specs.Figures.{Printed, own_figures}
use Rattle.section.specs.Sheets.{sheet_lines}
use Rattle.lines.specs.Texts.{lines_text, longest}
use Rattle.lines.specs.Reading.{Reading, values, bad_line, read_lines}
use Rattle.certificate.specs.Keys.{sheet_fields, certificate_fields}
use Rattle.certificate.specs.declared.Refusal.{Refusal}
use Rattle.certificate.specs.declared.Refusal.TheVariants.{Spelling, Room, Figure}
use Rattle.questions.specs.Asking.{asked_from, first_of, first_in}
use Rattle.certificate.specs.Questions.{questions, verdict}
use Rattle.certificate.specs.Certificates.{sheet_values, figure_values, certificate_values, certificate_of, sheet_shown, read_sheet, sheet_in, read_certificate, certificate_in, agreeing}
use Rattle.certificate.specs.Outcome.{question12, question13, writing, checking, outcome_of, outcome_read, outcome, checked_read, checked}
use Rattle.questions.specs.Outcomes.{refused, written_if_met, fitting, fitted, length_of}
use Rattle.certificate.specs.Outcome.{check_outcome}
use Rattle.lines.proofs.Laws.{by_reading, buffer_as_told, refused_as_told, written_as_told, reads_values, spelt_words, spelt_count}
use Rattle.certificate.proofs.Arrays.{sheet_keys, sheet_field_count}
use Rattle.questions.proofs.Laws.{buffer_refused, in_turn, then_nothing}
use Rattle.certificate.proofs.Theorems.{judged_refused, judged-accepted, accepted_is_met}
use Rattle.certificate.proofs.Shown.{length_most}
use Rattle.certificate.proofs.Lengths.{longest_certificate}
use Rattle.certificate.proofs.Steps.{refused_sheet, accepted_sheet, figures_worked}

-- the first question, of a sheet and of a certificate
module _ (s : List ℕ) where
  sheet_read : (r : Reading) → read_lines sheet_fields s ≡ r → sheet_in s ≡ read_sheet r
  unfolding sheet_in
  sheet_read r e = ap read_sheet e

  pub bad_read : (l : ℕ) → read_lines sheet_fields s ≡ bad_line l → sheet_in s ≡ Err (Spelling l)
  unfolding read_sheet
  bad_read l e = sheet_read (bad_line l) e

  pub right_read : (vs : List ℤ) → read_lines sheet_fields s ≡ values vs → sheet_in s ≡ Ok (sheet_shown vs)
  unfolding read_sheet
  right_read vs e = sheet_read (values vs) e

  module _ (room : ℕ) where
    pub bad_outcome : (r : Refusal) → sheet_in s ≡ Err r → outcome s room ≡ refused r
    unfolding outcome outcome_read
    bad_outcome r e = ap (λ (x : Result Sheet Refusal). outcome_read x room) e

    pub right_outcome : (q : Sheet) → sheet_in s ≡ Ok q → outcome s room ≡ outcome_of q room
    unfolding outcome outcome_read
    right_outcome q e = ap (λ (x : Result Sheet Refusal). outcome_read x room) e

    pub bad_sheet : (l : ℕ) → read_lines sheet_fields s ≡ bad_line l → outcome s room ≡ refused (Spelling l)
    bad_sheet l e = bad_outcome (Spelling l) (bad_read l e)

    pub right_sheet : (vs : List ℤ) → read_lines sheet_fields s ≡ values vs → outcome s room ≡ outcome_of (sheet_shown vs) room
    right_sheet vs e = right_outcome (sheet_shown vs) (right_read vs e)

one_value : {A E : Type 0} {x y : A} → ◌≡◌ {A = Result A E} (Ok x) (Ok y) → x ≡ y
one_value h = cc

one_refusal : {A E : Type 0} {x y : E} → ◌≡◌ {A = Result A E} (Err x) (Err y) → x ≡ y
one_refusal h = cc

module _ (c : List ℕ) where
  pub bad_certificate : (l : ℕ) → read_lines certificate_fields c ≡ bad_line l → checked c ≡ Err (Spelling l)
  unfolding checked checked_read
  bad_certificate l e = ap checked_read e

  pub right_certificate : (vs : List ℤ) → read_lines certificate_fields c ≡ values vs → checked c ≡ first_in (checking vs (sheet_shown vs))
  unfolding checked checked_read
  right_certificate vs e = ap checked_read e

  pub in_lines : (vs : List ℤ) → read_lines certificate_fields c ≡ values vs → checked c ≡ checked_read (values vs)
  unfolding checked
  in_lines vs e = ap checked_read e

  pub certificate_bad : (l : ℕ) → read_lines certificate_fields c ≡ bad_line l → certificate_in c ≡ Err (Spelling l)
  unfolding certificate_in read_certificate
  certificate_bad l e = ap read_certificate e

  pub certificate_words : (vs : List ℤ) → read_lines certificate_fields c ≡ values vs → (i : ℕ) → nat_abs (get_or vs i (pos 0)) < 2 ^ 64
  certificate_words vs e = spelt_words certificate_fields vs ((reads_values certificate_fields c vs).0 e).spelt

  pub certificate_right : (vs : List ℤ) → read_lines certificate_fields c ≡ values vs → certificate_in c ≡ Ok vs
  unfolding certificate_in read_certificate
  certificate_right vs e = ap read_certificate e

  -- the same of the values that the code reads
  pub values_read : (vs : List ℤ) → certificate_in c ≡ Ok vs → checked c ≡ checked_read (values vs)
  values_read vs e =
      by_reading certificate_fields c
      (λ us h. in_lines vs (h ∙ ap values (one_value (sym (certificate_right us h) ∙ e))))
      (λ l h. let both : Ok vs ≡ Err (Spelling l) = sym e ∙ certificate_bad l h in cc)

  pub none_read : (r : Refusal) → certificate_in c ≡ Err r → checked c ≡ Err r
  none_read r e =
      by_reading certificate_fields c
      (λ us h. let both : Ok us ≡ Err r = sym (certificate_right us h) ∙ e in cc)
      (λ l h. bad_certificate l h ∙ ap Err (one_refusal (sym (certificate_bad l h) ∙ e)))

  -- how many bytes a check passes, or why it refuses
  pub unlike_length : {r : Refusal} → checked c ≡ Err r → length_of (check_outcome c) ≡ Err r
  unfolding check_outcome written_if_met
  unlike_length e = rw e

  pub passed_length : checked c ≡ Ok tt → length_of (check_outcome c) ≡ Ok (length c)
  unfolding check_outcome written_if_met
  passed_length e = rw e

-- the questions up to the eleventh, then the one behind
module _ (q : Sheet) where
  questions-met : {p : Printed} → verdict q ≡ Ok p → (first_in (questions q) ≡ Ok tt) × (p ≡ own_figures q)
  unfolding verdict
  questions-met {p} e = (judged-accepted (first_in (questions q)) (own_figures q) p).0 e

  questions_refused : {r : Refusal} → verdict q ≡ Err r → first_in (questions q) ≡ Err r
  unfolding verdict
  questions_refused {r} e = (judged_refused (first_in (questions q)) (own_figures q) r).0 e

  pub refused_by_verdict : {r : Refusal} (room : ℕ) → verdict q ≡ Err r → outcome_of q room ≡ refused r
  unfolding outcome_of writing written_if_met
  refused_by_verdict room e = rw (in_turn (questions q) (question12 room q ∷ []), questions_refused e)

  pub room_asked : {p : Printed} (room : ℕ) → verdict q ≡ Ok p → outcome_of q room ≡ fitted Room room (lines_text certificate_fields (sheet_values q ++ figure_values p))
  unfolding outcome_of writing first_in question12 fitted certificate_of certificate_values
  room_asked {p} room e =
      let h = questions-met e in
      rw (in_turn (questions q) (question12 room q ∷ []), h.0, then_nothing (first_of (fitting Room room (certificate_of q))), h.1)

  pub accepted-length : {p : Printed} → verdict q ≡ Ok p → length (lines_text certificate_fields (sheet_values q ++ figure_values p)) ≤ longest certificate_fields
  unfolding certificate_of certificate_values
  accepted-length {p} e =
      let h = (accepted_is_met q p).0 e in
      subst (λ (x : Printed). length (lines_text certificate_fields (sheet_values q ++ figure_values x)) ≤ longest certificate_fields) (sym h.2) (length_most q h.0)

  pub refused_checking : {r : Refusal} (vs : List ℤ) → verdict q ≡ Err r → first_in (checking vs q) ≡ Err r
  unfolding checking
  refused_checking vs e = rw (in_turn (questions q) ([] ∷ question13 vs q ∷ []), questions_refused e)

  pub figures_asked : {p : Printed} (vs : List ℤ) → verdict q ≡ Ok p
      → first_in (checking vs q) ≡ first_of (asked_from Figure (sheet_lines + 1) (pairwise ◌is◌ (drop sheet_lines vs) (figure_values p)))
  unfolding checking first_in first_of question13 agreeing
  figures_asked {p} vs e =
      let h = questions-met e in
      rw (in_turn (questions q) ([] ∷ question13 vs q ∷ []), h.0, then_nothing (first_of (question13 vs q)), h.1)

-- what the code's steps tell, function by function
pub ruleset reading_certificates = (certificate_bad, certificate_right, certificate_words)

pub ruleset reading_sheets = (bad_read, right_read, reads_values, spelt_words, spelt_count, sheet_keys, sheet_field_count)

pub ruleset putting = (longest_certificate, buffer_as_told, refused_as_told, written_as_told)

pub ruleset working = (figures_worked, refused_sheet, accepted_sheet, refused_by_verdict, room_asked, accepted-length, buffer_refused)

pub ruleset certifying = (bad_outcome, right_outcome, buffer_refused)

pub ruleset comparing = (figures_worked, refused_sheet, refused_checking)

pub ruleset verifying = (values_read, none_read, passed_length, unlike_length)
