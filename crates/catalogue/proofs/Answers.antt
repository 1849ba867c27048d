-- What is answered to a catalogue, both ways: a report, or 14, 15 and 12, each exactly in its case and in that order.
use Rattle.std.specs.Prelude.{Result, Ok, Err}
use Prim.Native.Nat.{ℕ, ◌≤◌, ◌<◌}
use mathlib.Core.List.{List}
use mathlib.Core.Logic.{◌⊎◌, inl, inr, ⊎_elim, ◌↔◌}
use mathlib.Core.Path.{◌≡◌, refl, sym, ap, ◌∙◌, subst}
use native.Mathlib.Omega.{arith}
use borrow.Author.Tests.{leb-true, leb-false}
use lib.Dec.{leb}
use lib.ListN.{length}
use Rattle.pair.proofs.Numbers.{by_test}
use Rattle.questions.specs.declared.Answer.{Answer}
use Rattle.questions.specs.Answers.{answer}
use Rattle.questions.specs.Asking.{first_of}
use Rattle.questions.specs.Outcomes.{Outcome, refused, written, answer_of}
use Rattle.questions.specs.Reasons.{Refuses}
use Rattle.questions.proofs.Laws.{fits, too_long}
use Rattle.catalogue.specs.declared.ReportRefusal.{ReportRefusal}
use Rattle.catalogue.specs.declared.ReportRefusal.TheVariants.{SheetCount, Misspelt, Room}
use Rattle.catalogue.specs.Catalogues.{most_sheets, rows_from, report_of, longest_report}
use Rattle.catalogue.specs.Refusals.{report_answer}
use Rattle.catalogue.specs.Outcome.{question15, outcome_on}
use Rattle.catalogue.specs.Promises.{Countable, Uncountable, AllSpelt, FirstAt, FirstUnspelt, TooLong, Reports, Reported}
use Rattle.catalogue.proofs.Spellings.{all_spelt, none_misspelt, first_found, first_told}
use Rattle.catalogue.proofs.OutcomeLaws.{outcome_14, outcome_15, outcome_fitted}
use Rattle.catalogue.proofs.RowPlaces.{each_once, no_other}
use Rattle.catalogue.proofs.CountSums.{adds_up}
use Rattle.catalogue.proofs.ReportLengths.{report_most}

-- what a refusal answers
refused_answer : {o : Outcome ReportRefusal} {r : ReportRefusal} → o ≡ refused r → answer_of report_answer o ≡ report_answer r
refused_answer e = rw e

written-answer : {o : Outcome ReportRefusal} {t : List ℕ} → o ≡ written t → answer_of report_answer o ≡ answer 0 0 (length t)
written-answer e = rw e

-- The cases of sheets and a room.
module _ (ps : List (List ℕ)) (room : ℕ) where
  abbrev NotCountable : Type 0
  NotCountable = (length ps ≡ 0) ⊎ (most_sheets < length ps)

  not_countable : NotCountable → Countable ps → ⊥
  not_countable (inl z) h = omega (arith, h.some)
  not_countable (inr m) h = omega (arith, h.few)

  pub data Case : Type 0 where
    uncounted : NotCountable → Case
    unspelt : Countable ps → (place : ℕ) → FirstAt ps place → Case
    too_long_for : Countable ps → AllSpelt ps → room < length (report_of ps) → Case
    fitting_in : Countable ps → AllSpelt ps → length (report_of ps) ≤ room → Case

  -- each leads to its outcome
  Outcome-of : Case → Outcome ReportRefusal
  Outcome-of (uncounted n) = refused SheetCount
  Outcome-of (unspelt h place f) = refused (Misspelt place)
  Outcome-of (too_long_for h s l) = refused (Room (length (report_of ps)))
  Outcome-of (fitting_in h s l) = written (report_of ps)

  leads : (c : Case) → outcome_on ps room ≡ Outcome-of c
  unfolding Outcome-of
  leads (uncounted n) = outcome_14 ps room (not_countable n)
  leads (unspelt h place f) = outcome_15 ps room h (first_told ps place f)
  leads (too_long_for h s l) = outcome_fitted ps room h ((all_spelt ps).1 s) ∙ too_long Room room (report_of ps) l
  leads (fitting_in h s l) = outcome_fitted ps room h ((all_spelt ps).1 s) ∙ fits Room room (report_of ps) l

  -- and there is no other
  by_room : Countable ps → AllSpelt ps → Case
  by_room h s =
      by_test (leb (length (report_of ps)) room) (λ b. Case)
      (λ t. fitting_in h s (leb-true (length (report_of ps)) room t))
      (λ f. too_long_for h s (leb-false (length (report_of ps)) room f))

  by_spelling : Countable ps → (f : Result Unit ReportRefusal) → first_of (question15 ps) ≡ f → Case
  by_spelling h (Ok tt) e = by_room h ((all_spelt ps).0 e)
  by_spelling h (Err r) e = let f = first_found ps e in unspelt h f.0 f.1

  pub case : Case
  case =
      by_test (leb 1 (length ps)) (λ b. Case)
      (λ t.
      by_test (leb (length ps) most_sheets) (λ b. Case)
      (λ u. by_spelling (record { some = leb-true 1 (length ps) t; few = leb-true (length ps) most_sheets u }) (first_of (question15 ps)) refl)
      (λ u. uncounted (inr (leb-false (length ps) most_sheets u))))
      (λ t. uncounted (inl (omega (arith, leb-false 1 (length ps) t))))

  -- what a written report says
  says : AllSpelt ps → Reports ps (report_of ps)
  unfolding report_of
  says s = record {
    rows = rows_from 1 ps;
    text = refl;
    each_once = each_once ps;
    no_other = no_other ps;
    adds_up = adds_up ps (none_misspelt ps s);
  }

  -- By cases: written, or refused.
  written-Case : (t : List ℕ) (c : Case) → Outcome-of c ≡ written t → Reported ps room t
  unfolding Outcome-of
  written-Case t (uncounted n) e = cc
  written-Case t (unspelt h place f) e = cc
  written-Case t (too_long_for h s l) e = cc
  written-Case t (fitting_in h s l) e =
      let same : t ≡ report_of ps = cc in
      record { countable = h; spelt = s; text = same; fits = omega (arith, ap length same, l); says = subst (Reports ps) (sym same) (says s) }

  pub report_written_on : (t : List ℕ) → (outcome_on ps room ≡ written t) ↔ Reported ps room t
  unfolding Outcome-of
  report_written_on t = (
    λ e. written-Case t case (sym (leads case) ∙ e),
    λ h. leads (fitting_in h.countable h.spelt (omega (arith, ap length h.text, h.fits))) ∙ ap written (sym h.text),
  )

  abbrev Unreported : Answer → Type 0
  Unreported a = Uncountable ps a ⊎ (FirstUnspelt ps a ⊎ TooLong ps room a)

  refused_case : (a : Answer) (c : Case) → answer_of report_answer (outcome_on ps room) ≡ a → 1 ≤ a.refusal → Unreported a
  unfolding Outcome-of
  refused_case a (uncounted n) e g = inl (record { count = n; reported = sym e ∙ refused_answer (leads (uncounted n)) })
  refused_case a (unspelt h place f) e g =
      inr (inl (record {
        countable = h;
        place = place;
        first = f;
        reported = sym e ∙ refused_answer (leads (unspelt h place f));
      }))
  refused_case a (too_long_for h s l) e g =
      inr (inr (record { countable = h; spelt = s; long = l; reported = sym e ∙ refused_answer (leads (too_long_for h s l)) }))
  refused_case a (fitting_in h s l) e g = absurd (omega (arith, g, ap (λ (x : Answer). x.refusal) (sym e ∙ written-answer (leads (fitting_in h s l)))))

  Refuses-as : {r : ReportRefusal} {a : Answer} → outcome_on ps room ≡ refused r → a ≡ report_answer r → 1 ≤ (report_answer r).refusal → Refuses (answer_of report_answer (outcome_on ps room)) a
  Refuses-as e g h = record { is = refused_answer e ∙ sym g; number = omega (arith, h, ap (λ (x : Answer). x.refusal) g) }

  pub report_refused_on : (a : Answer) → Refuses (answer_of report_answer (outcome_on ps room)) a ↔ Unreported a
  unfolding Outcome-of
  report_refused_on a = (
    λ h. refused_case a case h.is h.number,
    ⊎_elim
        (λ u. Refuses-as (leads (uncounted u.count)) u.reported (omega arith))
        (⊎_elim
        (λ u. Refuses-as (leads (unspelt u.countable u.place u.first)) u.reported (omega arith))
        (λ u. Refuses-as (leads (too_long_for u.countable u.spelt u.long)) u.reported (omega arith))),
  )

  -- room for the longest report is enough
  pub never_short : longest_report ≤ room → (answer_of report_answer (outcome_on ps room)).refusal ≡ 12 → ⊥
  never_short enough e =
      ⊎_elim
      (λ u. omega (arith, e, ap (λ (x : Answer). x.refusal) u.reported))
      (⊎_elim
      (λ u. omega (arith, e, ap (λ (x : Answer). x.refusal) u.reported))
      (λ u. omega (arith, enough, u.long, report_most ps u.countable.few)))
      ((report_refused_on (answer_of report_answer (outcome_on ps room))).0 (record { is = refl; number = omega (arith, e) }))
