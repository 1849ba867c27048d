-- `printing::survey_prints` meets its contract.
use borrow.Author.Rules.{rules}
use mathlib.Core.Path.{sym, ap, ◌∙◌}
use native.Mathlib.Omega.{arith}
use lib.ListN.{length}
use Rattle.questions.specs.Buffers.{over}
use Rattle.report.specs.Printed.{refusal_lines}
use Rattle.catalogue.specs.Outcome.{report_outcome}
use Rattle.survey.proofs.Promises.{too_many, survey_printed}
use Rattle.survey.proofs.printing.survey_prints.Goals as goal

pub returns-then-sheet_count-gt-MOST_SHEETS : goal.returns-then-sheet_count-gt-MOST_SHEETS
returns-then-sheet_count-gt-MOST_SHEETS c =
    let put = c.put_refusal.ensures in
    let lines = ap refusal_lines c.told.ensures ∙ sym (too_many c.args.kept.now c.args.lines (omega arith)) in record {
      value = put.value ∙ ap length lines;
      out_after = put.out_after ∙ ap (λ l. over l c.args.out.now) lines;
      room = search rules;
    }

pub returns : goal.returns
returns c =
    let b = c.args.out.now in
    let o = report_outcome c.args.kept.now (length b) in
    let prints = survey_printed c.args.kept.now c.args.lines b (search rules) (omega arith) in
    let printed = c.outcome_prints.ensures in record {
      value = printed.value o c.survey.ensures.value ∙ ap length prints;
      out_after = printed.out_after o c.survey.ensures.value b c.survey.ensures.buffer_after ∙ ap (λ l. over l b) prints;
      room = search rules;
    }
