-- What `write` does with a sheet that its verdict is known of, in a room for any certificate: for crates above that judge sheets and write no
-- certificate.
use Rattle.std.specs.Prelude.{Ok, Err}
use Prim.Native.Nat.{ℕ, ◌-◌, ◌≤◌, ◌<◌}
use mathlib.Core.List.{List, []}
use mathlib.Core.Logic.{◌↔◌, ⊎_elim}
use mathlib.Core.Path.{◌≡◌, refl, sym, ap, ◌∙◌, subst}
use native.Mathlib.Omega.{arith}
use borrow.Author.Tests.{leb-true, leb-false}
use lib.Dec.{leb}
use lib.IntN.{ℤ}
use lib.ListN.{length, get_or-eq_default}
use Rattle.pair.proofs.Numbers.{by_test}
use Rattle.section.specs.declared.Sheet.{Sheet}
use Rattle.section.specs.declared.Figures.{Figures}
use Rattle.section.specs.Sound.{Sound}
use Rattle.section.specs.Sheets.{sheet_lines}
use Rattle.section.specs.Figures.{Printed, own_figures}
use Rattle.section.specs.Forms.{figures_of}
use Rattle.section.proofs.Laws.{figures_have_ten_digits}
use Rattle.lines.specs.Texts.{longest, FirstBad}
use Rattle.lines.specs.Reading.{Reading, values, bad_line}
use Rattle.lines.specs.Splitting.{split_lines, newlines, unended}
use Rattle.lines.proofs.Laws.{by_reading, reads_values, reads_bad, split_count, text_at_most, text_ended, text_newlines}
use Rattle.questions.specs.declared.Answer.{Answer}
use Rattle.questions.specs.Reasons.{Lined, FirstNo, Refuses}
use Rattle.questions.specs.Outcomes.{refused, written, answer_of}
use Rattle.certificate.specs.declared.Refusal.{Refusal}
use Rattle.certificate.specs.declared.Refusal.TheVariants.{Room}
use Rattle.certificate.specs.Keys.{sheet_fields, certificate_fields}
use Rattle.certificate.specs.Refusals.{refusal_answer}
use Rattle.certificate.specs.Questions.{verdict, verdict_of}
use Rattle.certificate.specs.Certificates.{sheet_values, sheet_shown, certificate_values, certificate_of, figures_read, figures_in}
use Rattle.certificate.specs.Reasons.{lines_of_questions, lines_on_numbers}
use Rattle.certificate.specs.Outcome.{outcome_of, outcome}
use Rattle.certificate.specs.Promises.{Question1, NumbersUnmet, lines_of_writing}
use Rattle.certificate.proofs.Theorems.{so_is_allowed, accepted_is_met}
use Rattle.certificate.proofs.Shown.{figures_back, certificate_text_lem}
use Rattle.certificate.proofs.OutcomeSteps.{refused_by_verdict, room_asked, accepted-length}
use Rattle.certificate.proofs.Steps.{refused_sheet, accepted_sheet}
use Rattle.questions.proofs.Laws.{fits}
use Rattle.certificate.proofs.Written.{claims_are, shows, FirstBad-line, sheet_written, sheet_refused}
use Rattle.certificate.proofs.Rooms.{room_for_text}

-- the figures that a sheet's certificate shows are those of the working
figures_read_lem : (q : Sheet) → Sound q → figures_in (certificate_of q) ≡ own_figures q
unfolding figures_in figures_read certificate_values
figures_read_lem q s =
    ap figures_read ((reads_values certificate_fields (certificate_of q) (certificate_values q)).1 (certificate_text_lem q s)) ∙ figures_back q (own_figures q)

-- By the verdict that the code has.
module _ (q : Sheet) (room : ℕ) where
  pub refused_as_judged : {r : Refusal} → verdict_of (verdict q) ≡ Err r → outcome_of q room ≡ refused r
  refused_as_judged e = refused_by_verdict q room (refused_sheet q e)

  module _ {f : Figures} (e : verdict_of (verdict q) ≡ Ok f) where
    pub written_as_judged : longest certificate_fields ≤ room → outcome_of q room ≡ written (certificate_of q)
    unfolding certificate_of certificate_values
    written_as_judged enough =
        let h = (accepted_sheet q e).0 in
        room_asked q room h ∙ fits Room room _ (omega (arith, enough, accepted-length q h))

    shown : f ≡ figures_of (figures_in (certificate_of q))
    shown =
        let h = accepted_sheet q e in
        h.1 ∙ ap figures_of (sym (figures_read_lem q ((accepted_is_met q (own_figures q)).0 h.0).0))

    pub shown_as_judged : (f.area ≡ (figures_in (certificate_of q)).area) × (f.axial ≡ (figures_in (certificate_of q)).axial)
    shown_as_judged = (ap (λ (x : Figures). x.area) shown, ap (λ (x : Figures). x.axial) shown)

-- no bytes are both right lines and bad ones
not_both : {r : Reading} {vs : List ℤ} {l : ℕ} → r ≡ values vs → r ≡ bad_line l → ⊥
not_both e g = let z : ◌≡◌ {A = ℕ} 0 1 = cc in omega arith

-- no question stands behind the twelfth
last_question : (q : Sheet) (room : ℕ) (a : Answer) → 11 < a.refusal → NumbersUnmet q room a → a.refusal ≡ 12
unfolding lines_of_writing lines_of_questions lines_on_numbers
last_question q room a h u =
    by_test (leb a.refusal 12) (λ b. a.refusal ≡ 12)
    (λ t. omega (arith, h, leb-true a.refusal 12 t))
    (λ f.
    absurd
    (subst (λ (ls : List Lined). FirstNo ls a.line)
    (get_or-eq_default (lines_of_writing room q) [] {n = a.refusal - 2} (omega (arith, leb-false a.refusal 12 f)))
    u.first))

-- By the number that is answered.
module _ (s : List ℕ) (room : ℕ) where
  abbrev answered : Answer
  answered = answer_of refusal_answer (outcome s room)

  refuses : 1 ≤ answered.refusal → Refuses answered answered
  refuses h = record { is = refl; number = h }

  -- it is 1 exactly where the first question is not met
  pub fails_first : (answered.refusal ≡ 1) ↔ ((l : ℕ) × FirstBad sheet_fields s l)
  fails_first = (
    λ e.
        ⊎_elim
        (λ m. (m.line, m.bad))
        (λ u. absurd (omega (arith, e, u.reason.numbered)))
        ((sheet_refused s room answered).0 (refuses (omega (arith, e)))),
    λ b. ap (λ (a : Answer). a.refusal) ((FirstBad-line s room b.0).1 b.1),
  )

  pub meets_first : (answered.refusal ≡ 1 → ⊥) ↔ ((q : Sheet) × Question1 s q)
  meets_first = (
    λ n. by_reading sheet_fields s (λ vs g. (sheet_shown vs, shows s vs g)) (λ l g. absurd (n (fails_first.1 (l, (reads_bad sheet_fields s l).0 g)))),
    λ h e.
        let b = fails_first.0 e in
        not_both ((reads_values sheet_fields s (sheet_values h.0)).1 h.1.text) ((reads_bad sheet_fields s b.0).1 b.1),
  )

  -- in a room for any certificate it is at most 11
  pub up_to_eleven : longest certificate_fields ≤ room → answered.refusal ≤ 11
  up_to_eleven enough = by_test (leb answered.refusal 11) (λ b. answered.refusal ≤ 11) (λ t. leb-true _ _ t) (λ f. absurd (beyond (leb-false _ _ f)))
    where
      beyond : 11 < answered.refusal → ⊥
      beyond h =
          ⊎_elim
          (λ m. omega (arith, h, ap (λ (a : Answer). a.refusal) m.reported))
          (λ u. room_for_text room enough s (last_question u.sheet room answered h u.reason))
          ((sheet_refused s room answered).0 (refuses (omega (arith, h))))

  -- the figures that are shown have at most ten digits
  pub shown_below : (c : List ℕ) → outcome s room ≡ written c → ((figures_in c).area < 10000000000) × ((figures_in c).axial < 10000000000)
  shown_below c e =
      let w = (sheet_written s room c).0 e in
      let sound = ((so_is_allowed w.sheet).0 ((claims_are w.sheet room).0 w.questions).0).0 in
      let same : figures_in c ≡ own_figures w.sheet = ap figures_in w.text ∙ figures_read_lem w.sheet sound in
      let below = figures_have_ten_digits w.sheet sound in
      (subst (λ (p : Printed). p.area < 10000000000) (sym same) below.area, subst (λ (p : Printed). p.axial < 10000000000) (sym same) below.axial)

-- A sheet that meets the first question has as many lines as a sheet has, each with its newline, and no more bytes than the longest.
module _ (s : List ℕ) (q : Sheet) (h : Question1 s q) where
  pub sheet_ended : unended s ≡ 0
  sheet_ended = ap unended h.text.text ∙ text_ended sheet_fields (sheet_values q)

  pub sheet_lines_lem : length (split_lines s) ≡ sheet_lines
  unfolding sheet_fields newlines
  sheet_lines_lem = omega (arith, split_count s, sheet_ended, ap newlines h.text.text, text_newlines sheet_fields (sheet_values q) refl h.text.spelt)

  pub sheet_most : length s ≤ longest sheet_fields
  sheet_most = omega (arith, ap length h.text.text, text_at_most sheet_fields (sheet_values q) h.text.spelt)
