-- The steps of the code that answers: the questions on numbers, and the eleventh.
use Rattle.std.specs.Prelude.{not, Option, Result, Ok, Err}
use Rattle.std.specs.List.{position_from, zip}
use mathlib.Core.Path.{◌≡◌, refl, sym, ap, ◌∙◌}
use mathlib.Core.Bool.{Bool, true, false}
use mathlib.Core.Logic.{inl, ◌↔◌}
use mathlib.Core.List.{List, [], ◌∷◌, map}
use Prim.Native.Nat.{ℕ}
use Rattle.section.specs.declared.Sheet.{Sheet}
use Rattle.section.specs.declared.Figures.{Figures}
use Rattle.section.specs.Sheets.{fineness, values_of, ranges, in_ranges}
use Rattle.section.specs.Figures.{Printed, figures, own_figures, allowed, Question11}
use Rattle.section.specs.Sound.{Question2, Sound}
use Rattle.section.specs.Forms.{figures_of}
use Rattle.section.proofs.Laws.{allowed_is_met, not_allowed_is_unmet}
use Rattle.certificate.specs.declared.Refusal.{Refusal}
use Rattle.certificate.specs.declared.Refusal.TheVariants.{Range, Allowance}
use Rattle.certificate.specs.declared.verdicts.Span.{Span}
use Rattle.questions.specs.Claims.{Claim, test, pairwise}
use Rattle.questions.specs.Asking.{asked, asked_from, found_at, ◌then◌, first_of, first_in}
use Rattle.certificate.specs.Questions.{question2, question11, on_numbers, on_lengths, on_lips, questions, first_refusal, judged, verdict, verdict_of, spanned}
use Rattle.questions.specs.Reasons.{lined_from}
use Rattle.certificate.proofs.Ties.{So-in_range}
use Rattle.certificate.proofs.Theorems.{met_is_sound}
use Rattle.questions.proofs.Laws.{All, All-when_met, met_when_all, refused_when_no, found_in_turn, in_turn, pairwise-map, then_nothing}

module _ (q : Sheet) where
  -- what is found of the second, asked by a table of spans that stands for the ranges
  found_by_spans : (spans : List Span) → map spanned spans ≡ ranges → {vs : List ℕ} → vs ≡ values_of q
      → first_of (asked_from Range 1 (pairwise spanned spans vs)) ≡ first_of (question2 q)
  unfolding question2 in_ranges
  found_by_spans spans e {vs} v =
      sym (ap (λ (l : List Claim). first_of (asked_from Range 1 l))
      (ap (pairwise (λ range w. range w) ranges) (sym v) ∙ ap (λ (rs : List (ℕ → Claim)). pairwise (λ range w. range w) rs vs) (sym e)
      ∙ pairwise-map (λ range w. range w) spanned spans vs))

  pub found_by_table : (spans : List Span) {vs : List ℕ} {o : Option ℕ} → o ≡ position_from (λ p. not (test (spanned p.0 p.1))) 0 (zip spans vs)
      → map spanned spans ≡ ranges → vs ≡ values_of q → found_at Range 1 o ≡ first_of (question2 q)
  found_by_table spans {vs} k e v = ap (found_at Range 1) k ∙ found_in_turn spanned Range 1 spans vs ∙ found_by_spans spans e v

  asked2 : All (question2 q) → Question2 q
  unfolding question2 asked_from lined_from in_ranges pairwise values_of
  asked2 h = (So-in_range q).0 h

  -- the second is met
  pub in_range : first_of (question2 q) ≡ Ok tt → Question2 q
  in_range e = asked2 (All-when_met (question2 q) e)

  -- the questions up to the tenth, part by part
  in_parts : first_refusal q ≡ (first_of (question2 q) then (first_in (on_lengths q) then first_in (on_lips q)))
  unfolding first_refusal on_numbers first_in
  in_parts = ap (λ (f : Result Unit Refusal). first_of (question2 q) then f) (in_turn (on_lengths q) (on_lips q))

  pub unmet_second : {r : Refusal} → first_of (question2 q) ≡ Err r → first_refusal q ≡ Err r
  unmet_second e = in_parts ∙ rw e

  pub unmet_lengths : {r : Refusal} → first_of (question2 q) ≡ Ok tt → first_in (on_lengths q) ≡ Err r → first_refusal q ≡ Err r
  unmet_lengths e f = in_parts ∙ rw (e, f)

  pub lips_left : first_of (question2 q) ≡ Ok tt → first_in (on_lengths q) ≡ Ok tt → first_refusal q ≡ first_in (on_lips q)
  lips_left e f = in_parts ∙ rw (e, f)

  -- all of them are met
  pub sound_when_met : first_refusal q ≡ Ok tt → Sound q
  sound_when_met e = (met_is_sound q).0 e

  pub sound_sheet : first_refusal q ≡ Ok tt → ∥ Sound q ∥₁
  sound_sheet e = ∣ sound_when_met e ∣₁

  -- the eleventh
  asked11 : All (question11 q) ↔ Question11 (fineness q) q
  unfolding question11
  asked11 = (λ h. record { allowed = h.0 }, λ h. (h.allowed, tt))

  by_allowed : (b : Bool) → allowed (fineness q) q ≡ b → first_of (question11 q) ≡ asked b Allowance
  unfolding question11
  by_allowed true e = met_when_all (question11 q) (asked11.1 ((allowed_is_met (fineness q) q).0 e))
  by_allowed false e = refused_when_no (question11 q) Allowance (inl (λ a. (not_allowed_is_unmet (fineness q) q).0 e (asked11.0 (a, tt)), refl))

  -- as the code asks it of the sheet p, worked at the fineness n
  module _ {n m : ℕ} {p : Sheet} {b : Bool} {a : Result Unit Refusal}
      (worked : n ≡ m) (own : m ≡ fineness q) (same : p ≡ q) (told : b ≡ allowed n p) (put : a ≡ asked b Allowance) where
    eleventh : first_of (question11 q) ≡ a
    eleventh = by_allowed b (sym (told ∙ rw (worked, own, same))) ∙ sym put

    pub eleventh_unmet : {r : Refusal} → a ≡ Err r → verdict_of (judged (first_of (question11 q)) (own_figures q)) ≡ Err r
    eleventh_unmet e = rw (eleventh ∙ e)

    pub eleventh_met : {f : Figures} → a ≡ Ok tt → f ≡ figures_of (figures n p) → Ok f ≡ verdict_of (judged (first_of (question11 q)) (own_figures q))
    eleventh_met e k = sym (rw (eleventh ∙ e) (ap Ok (sym (k ∙ rw (worked, own, same)))))

  verdict_then : verdict q ≡ judged (first_refusal q then first_of (question11 q)) (own_figures q)
  unfolding verdict questions first_refusal first_in
  verdict_then =
      ap (λ (f : Result Unit Refusal). judged f (own_figures q))
      (in_turn (on_numbers q) (question11 q ∷ []) ∙ ap (λ (f : Result Unit Refusal). first_in (on_numbers q) then f) (then_nothing (first_of (question11 q))))

  pub unmet_before : {r : Refusal} → first_refusal q ≡ Err r → verdict q ≡ Err r
  unmet_before e = verdict_then ∙ rw e

  pub eleventh_left : first_refusal q ≡ Ok tt → verdict q ≡ judged (first_of (question11 q)) (own_figures q)
  eleventh_left e = verdict_then ∙ rw e

-- what an answer of the code before goes on to
pub ruleset part_by_part = (in_range, unmet_second, unmet_lengths, lips_left)

pub ruleset before_the_eleventh = (unmet_before, sound_sheet, eleventh_left)

-- what the code's verdict says: the refusal, or the figures
verdict_refused : (j : Result Printed Refusal) {r : Refusal} → verdict_of j ≡ Err r → j ≡ Err r
verdict_refused (Err s) e = cc
verdict_refused (Ok p) e = cc

verdict_figures : (x : Result Unit Refusal) (p : Printed) {f : Figures} → verdict_of (judged x p) ≡ Ok f → (judged x p ≡ Ok p) × (f ≡ figures_of p)
verdict_figures (Ok u) p e = (refl, cc)
verdict_figures (Err r) p e = cc

module _ (q : Sheet) where
  pub refused_sheet : {r : Refusal} → verdict_of (verdict q) ≡ Err r → verdict q ≡ Err r
  refused_sheet e = verdict_refused (verdict q) e

  pub accepted_sheet : {f : Figures} → verdict_of (verdict q) ≡ Ok f → (verdict q ≡ Ok (own_figures q)) × (f ≡ figures_of (own_figures q))
  unfolding verdict
  accepted_sheet e = verdict_figures (first_in (questions q)) (own_figures q) e

  pub figures_worked : {f : Figures} → verdict_of (verdict q) ≡ Ok f → f ≡ figures_of (own_figures q)
  figures_worked e = (accepted_sheet e).1
