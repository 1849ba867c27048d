-- `reports::survey` meets its contract.
use Prim.Native.Nat.{◌≤◌}
use mathlib.Core.Path.{◌≡◌, sym, ◌∙◌}
use native.Mathlib.Omega.{arith}
use lib.ListN.{length}
use Rattle.std.proofs.lemmas.Grind.{common_steps}
use Rattle.std.specs.Prelude.{Bool, true, false, Err}
use Rattle.questions.specs.Asking.{asked}
use Rattle.questions.proofs.Laws.{length_refused, buffer_refused}
use Rattle.catalogue.specs.declared.ReportRefusal.{ReportRefusal}
use Rattle.catalogue.specs.declared.ReportRefusal.TheVariants.{SheetCount}
use Rattle.catalogue.specs.Catalogues.{most_sheets}
use Rattle.catalogue.proofs.Reporting.{exactly_counted, uncountable_outcome}
use Rattle.catalogue.proofs.reports.survey.Goals as goal

refusal_is : (t : Bool) {r : ReportRefusal} → asked t SheetCount ≡ Err r → r ≡ SheetCount
refusal_is true e = cc
refusal_is false e = cc

pub returns-in_err-ask : goal.returns-in_err-ask
returns-in_err-ask c =
    let b = c.args.buffer.now in
    let outside : (1 ≤ c.sheet_count-n.result) × (c.sheet_count-n.result ≤ most_sheets) → ⊥ = λ h. grind (arith, common_steps, h) in
    let o = uncountable_outcome c.args.sheets.now c.none.ensures c.count_on.ensures c.sheet_count-n.ensures (length b) outside in
    let e = length_refused o in
    let is = refusal_is _ (sym c.ask.ensures ∙ c.in_err-ask.was) in
    record { value = grind (arith, common_steps, e, is); buffer_after = sym (buffer_refused b o) }

pub report_on-requires : goal.report_on-requires
report_on-requires c =
    let few : c.sheet_count-n.result ≤ most_sheets = grind (arith, common_steps) in
    let some : 1 ≤ c.sheet_count-n.result = grind (arith, common_steps) in
    let all = exactly_counted c.args.sheets.now c.none.ensures c.count_on.ensures c.sheet_count-n.ensures few in
    record { all_sheets = all; countable = (some, few) }
