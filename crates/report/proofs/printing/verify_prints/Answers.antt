-- `printing::verify_prints` meets its contract.
use borrow.Author.Rules.{rules}
use mathlib.Core.Path.{ap, sym, ◌∙◌}
use lib.ListN.{length}
use Rattle.questions.specs.Buffers.{over}
use Rattle.report.specs.Printed.{refusal_lines}
use Rattle.report.proofs.Answers.{length_prints, verified_prints}
use Rattle.report.proofs.printing.verify_prints.Goals as goal

pub returns-in-Ok : goal.returns-in-Ok
returns-in-Ok c =
    let put = c.put.ensures in
    let line = c.passed.ensures.text ∙ ap length_prints (sym c.in-Ok.is ∙ c.verify.ensures) ∙ verified_prints c.args.certificate.now in record {
      value = put.value ∙ ap length line;
      out_after = put.out_after ∙ ap (λ l. over l c.args.out.now) line;
      room = search rules;
    }

pub returns-in-Err : goal.returns-in-Err
returns-in-Err c =
    let put = c.put_refusal.ensures in
    let lines = ap refusal_lines c.told.ensures ∙ ap length_prints (sym c.in-Err.is ∙ c.verify.ensures) ∙ verified_prints c.args.certificate.now in record {
      value = put.value ∙ ap length lines;
      out_after = put.out_after ∙ ap (λ l. over l c.args.out.now) lines;
      room = search rules;
    }
