-- The questions on a catalogue in order: what each case leads to.
use Rattle.std.specs.Prelude.{Result, Ok, Err}
use Prim.Native.Nat.{ℕ, ◌<◌}
use mathlib.Core.List.{List, [], ◌∷◌}
use mathlib.Core.Logic.{inl}
use mathlib.Core.Path.{◌≡◌, refl, ap, ◌∙◌}
use native.Mathlib.Omega.{arith}
use lib.ListN.{length}
use Rattle.questions.specs.Asking.{first_of, first_in}
use Rattle.questions.specs.Outcomes.{refused, written_if_met, fitted}
use Rattle.questions.proofs.Laws.{met_when_all, refused_when_no, first_refuses, first_passes, if_unmet_refused, asked_last}
use Rattle.catalogue.specs.declared.ReportRefusal.{ReportRefusal}
use Rattle.catalogue.specs.declared.ReportRefusal.TheVariants.{SheetCount, Room}
use Rattle.catalogue.specs.Catalogues.{most_sheets, sheets_in, report_of}
use Rattle.catalogue.specs.Outcome.{question14, question15, question12, outcome_on, report_outcome}
use Rattle.catalogue.specs.Promises.{Countable}

module _ (ps : List (List ℕ)) (room : ℕ) where
  pub outcome_14 : (Countable ps → ⊥) → outcome_on ps room ≡ refused SheetCount
  unfolding outcome_on question14
  outcome_14 n =
      if_unmet_refused (report_of ps)
      (first_refuses (question14 ps) (question15 ps ∷ question12 room ps ∷ [])
      (refused_when_no (question14 ps) SheetCount (inl (λ h. n (record { some = h.0; few = h.1 }), refl))))

  module _ (h : Countable ps) where
    behind_14 : first_in (question14 ps ∷ question15 ps ∷ question12 room ps ∷ []) ≡ first_in (question15 ps ∷ question12 room ps ∷ [])
    unfolding question14
    behind_14 = first_passes (question14 ps) (question15 ps ∷ question12 room ps ∷ []) (met_when_all (question14 ps) ((h.some, h.few), tt))

    pub outcome_15 : {r : ReportRefusal} → first_of (question15 ps) ≡ Err r → outcome_on ps room ≡ refused r
    unfolding outcome_on
    outcome_15 e = if_unmet_refused (report_of ps) (behind_14 ∙ first_refuses (question15 ps) (question12 room ps ∷ []) e)

    pub outcome_fitted : first_of (question15 ps) ≡ Ok tt → outcome_on ps room ≡ fitted Room room (report_of ps)
    unfolding outcome_on question12
    outcome_fitted e =
        ap (λ (f : Result Unit ReportRefusal). written_if_met f (report_of ps)) (behind_14 ∙ first_passes (question15 ps) (question12 room ps ∷ []) e)
        ∙ asked_last Room room (report_of ps)

-- so a catalogue of over 1,000 sheets is refused
pub too_many_refused : (s : List ℕ) (room : ℕ) → most_sheets < length (sheets_in s) → report_outcome s room ≡ refused SheetCount
unfolding report_outcome
too_many_refused s room h = outcome_14 (sheets_in s) room (λ n. omega (arith, n.few, h))
