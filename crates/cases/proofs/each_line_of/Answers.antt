-- Each line was run.
use Rattle.cases.proofs.Ran.{ran}
use Rattle.cases.proofs.each_line_of.Goals as goal

pub returns : goal.returns
returns g c =
    let all = c.try_for_each.ensures.ran in
    ran g.F.FnMut _ _ c.args.run all.2 c.args.text.now c.lines.result _ all.0 all.1 c.try_for_each.result c.lines.ensures.rest all.3 all.4 all.5 (λ x t. t.5.0)
