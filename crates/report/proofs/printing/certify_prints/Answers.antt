-- `printing::certify_prints` meets its contract.
use borrow.Author.Rules.{rules}
use mathlib.Core.Path.{ap, ◌∙◌}
use lib.ListN.{length}
use Rattle.questions.specs.Buffers.{over}
use Rattle.certificate.specs.Outcome.{outcome}
use Rattle.report.proofs.Answers.{certified_prints}
use Rattle.report.proofs.printing.certify_prints.Goals as goal

pub returns : goal.returns
returns c =
    let b = c.args.out.now in
    let o = outcome c.args.sheet.now (length b) in
    let prints = certified_prints c.args.sheet.now b (search rules) in
    let printed = c.outcome_prints.ensures in record {
      value = printed.value o c.certify.ensures.value ∙ ap length prints;
      out_after = printed.out_after o c.certify.ensures.value b c.certify.ensures.buffer_after ∙ ap (λ l. over l b) prints;
      room = search rules;
    }
