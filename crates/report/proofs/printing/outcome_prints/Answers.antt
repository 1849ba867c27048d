-- `printing::outcome_prints` meets its contract.
use mathlib.Core.List.{[]}
use mathlib.Core.Path.{sym, ap, ◌∙◌}
use lib.ListN.{length}
use Rattle.questions.specs.Buffers.{over}
use Rattle.report.specs.Printed.{refusal_lines}
use Rattle.report.proofs.Answers.{text_printed, refusal_printed}
use Rattle.report.proofs.printing.outcome_prints.Goals as goal

pub returns-in-Ok : goal.returns-in-Ok
returns-in-Ok g c = record {
  value = λ o e. (text_printed g.R.Reason.told o [] (sym c.in-Ok.is ∙ e)).0;
  out_after = λ o e b h. h ∙ (text_printed g.R.Reason.told o b (sym c.in-Ok.is ∙ e)).1;
}

pub returns-in-Err : goal.returns-in-Err
returns-in-Err g c =
    let put = c.put_refusal.ensures in
    let told = ap refusal_lines c.told.ensures in record {
      value = λ o e. put.value ∙ ap length (told ∙ (refusal_printed g.R.Reason.told o [] (sym c.in-Err.is ∙ e)).0);
      out_after = λ o e b h.
          let printed = refusal_printed g.R.Reason.told o b (sym c.in-Err.is ∙ e) in
          put.out_after ∙ ap (λ l. over l c.args.out.now) (told ∙ printed.0) ∙ ap (over _) (h ∙ printed.1);
    }
