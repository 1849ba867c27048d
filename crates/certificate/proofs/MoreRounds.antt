-- Refining never goes upward: what the certificates of a sheet and of the same one with more rounds show.
use Prim.Native.Nat.{ℕ, ◌≤◌}
use mathlib.Core.List.{List}
use mathlib.Core.Path.{◌≡◌, sym, ap, ◌∙◌, subst}
use lib.IntN.{ℤ}
use Rattle.section.specs.declared.Sheet.{Sheet}
use Rattle.section.specs.Sheets.{with_rounds}
use Rattle.section.specs.Figures.{Printed, own_figures}
use Rattle.section.specs.Refining.{PrintedNotRaised}
use Rattle.section.proofs.Laws.{printed_factors_never_rise}
use Rattle.lines.specs.Reading.{values, read_lines}
use Rattle.lines.proofs.Laws.{reads_values}
use Rattle.questions.specs.Outcomes.{written}
use Rattle.certificate.specs.Keys.{certificate_fields}
use Rattle.certificate.specs.Certificates.{certificate_values, certificate_of, figures_shown}
use Rattle.certificate.specs.Outcome.{outcome_of}
use Rattle.certificate.specs.Promises.{WrittenFor, as_text, as_numbers, FactorsNotRaised}
use Rattle.certificate.proofs.Theorems.{so_is_allowed}
use Rattle.certificate.proofs.Shown.{figures_back, certificate_text_lem}
use Rattle.certificate.proofs.Written.{numbers_written, claims_are, shown}

-- what is written for a sheet is its certificate, and its lines are read back with the figures of the working
pub record OwnFigures (q : Sheet) (c : List ℕ) : Type 0 where
  pub shown : List ℤ
  pub read : read_lines certificate_fields c ≡ values shown
  pub figures : figures_shown shown ≡ own_figures q

module _ (q : Sheet) (c : List ℕ) where
  by_numbers : (room : ℕ) → outcome_of q room ≡ written c → OwnFigures q c
  unfolding certificate_values
  by_numbers room e =
      let w = (numbers_written q room c).0 e in
      let sound = ((so_is_allowed q).0 ((claims_are q room).0 w.0).0).0 in
      let own = (reads_values certificate_fields (certificate_of q) (certificate_values q)).1 (certificate_text_lem q sound) in
      record { shown = certificate_values q; read = ap (read_lines certificate_fields) w.1 ∙ own; figures = figures_back q (own_figures q) }

  OwnFigures-shown : WrittenFor q c → OwnFigures q c
  OwnFigures-shown (as_text s room h e) = by_numbers room (sym (shown s q room h) ∙ e)
  OwnFigures-shown (as_numbers room e) = by_numbers room e

pub never_upward : (q : Sheet) {i j : ℕ} → i ≤ j → (fewer more : List ℕ) → WrittenFor (with_rounds i q) fewer → WrittenFor (with_rounds j q) more
    → FactorsNotRaised fewer more
never_upward q {i} {j} h fewer more f m =
    let a = OwnFigures-shown (with_rounds i q) fewer f in
    let b = OwnFigures-shown (with_rounds j q) more m in
    record {
      fewer_shown = a.shown;
      fewer_read = a.read;
      more_shown = b.shown;
      more_read = b.read;
      factors =
          subst (λ (p : Printed). PrintedNotRaised p (figures_shown a.shown)) (sym b.figures)
          (subst (PrintedNotRaised (own_figures (with_rounds j q))) (sym a.figures) (printed_factors_never_rise q h));
    }
