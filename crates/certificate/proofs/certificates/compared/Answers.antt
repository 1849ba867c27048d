-- `certificate::certificates::compared` meets its contract.
use Prim.Native.Nat.{◌+◌}
use mathlib.Core.List.{List}
use mathlib.Core.Path.{sym, ap, ◌∙◌}
use lib.IntN.{ℤ}
use lib.ListN.{drop}
use Rattle.section.specs.declared.Sheet.{Sheet}
use Rattle.section.specs.Sheets.{sheet_lines}
use Rattle.questions.specs.Claims.{◌is◌, pairwise}
use Rattle.certificate.specs.declared.Refusal.TheVariants.{Figure}
use Rattle.questions.specs.Asking.{asked_from, first_of, first_in}
use Rattle.certificate.specs.Certificates.{certificate_values}
use Rattle.certificate.specs.Outcome.{checking, checked_read}
use Rattle.certificate.proofs.Shown.{behind_sheet}
use Rattle.certificate.proofs.Steps.{accepted_sheet}
use Rattle.certificate.proofs.OutcomeSteps.{figures_asked}
use Rattle.certificate.proofs.certificates.compared.Goals as goal

pub returns : goal.returns
unfolding certificate_values checked_read
returns c =
    let vs = c.args.shown.now in
    let q = c.sheet_shown-q in
    c.first_unlike.ensures
    ∙ ap (λ (ws : List ℤ). first_of (asked_from Figure (sheet_lines + 1) (pairwise ◌is◌ (drop sheet_lines vs) ws))) (ap (drop sheet_lines) c.line_values.ensures ∙ behind_sheet q.result _)
    ∙ sym (figures_asked q.result vs (accepted_sheet q.result (sym c.verdict_of.ensures ∙ c.in_ok-figures.was)).0)
    ∙ ap (λ (q : Sheet). first_in (checking vs q)) q.ensures
