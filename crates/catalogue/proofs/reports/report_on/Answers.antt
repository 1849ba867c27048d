-- `reports::report_on` meets its contract.
use mathlib.Core.Path.{sym, ap, ◌∙◌}
use lib.ListN.{length}
use Rattle.questions.specs.Outcomes.{Outcome, length_of, buffer_after}
use Rattle.catalogue.specs.declared.ReportRefusal.{ReportRefusal}
use Rattle.catalogue.proofs.Reporting.{areas_fit, axials_fit, text_most, spelt_outcome}
use Rattle.catalogue.proofs.reports.report_on.Goals as goal

pub sums-area-requires : goal.sums-area-requires
sums-area-requires c =
    let s = c.args.sheets.now in
    let r = c.requires in
    let rows = c.deref-rows.ensures.0 ∙ c.in_ok-enter_sheets.ensures.rows in
    record {
      areas_fit = areas_fit s r.all_sheets r.countable.0 r.countable.1 rows;
      axials_fit = axials_fit s r.all_sheets r.countable.0 r.countable.1 rows;
    }

pub put-requires : goal.put-requires
put-requires c =
    let r = c.requires in
    let e = c.in_ok-enter_sheets.ensures in
    let rows = c.deref-rows.ensures.0 ∙ e.rows in
    text_most c.args.sheets.now r.all_sheets r.countable.0 r.countable.1 rows e.counts c.sums-area.ensures c.summary.ensures

pub returns : goal.returns
returns c =
    let r = c.requires in
    let e = c.in_ok-enter_sheets.ensures in
    let b = c.args.buffer.now in
    let rows = c.deref-rows.ensures.0 ∙ e.rows in
    let spelt = sym c.enter_sheets.ensures.finds ∙ c.in_ok-enter_sheets.was in
    let o =
    spelt_outcome c.args.sheets.now r.all_sheets r.countable.0 r.countable.1 rows e.counts c.sums-area.ensures c.summary.ensures (length b) spelt in
    record {
      value = c.put.ensures.value ∙ ap length_of o;
      buffer_after = c.put.ensures.buffer_after ∙ ap (λ (x : Outcome ReportRefusal). buffer_after x b) o;
    }
