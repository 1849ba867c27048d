-- Each line was run.
use Rattle.cases.specs.declared.Lines.{Lines}
use Rattle.cases.proofs.Ran.{ran_on_bytes}
use Rattle.cases.proofs.each_line_of_bytes.Goals as goal

pub returns : goal.returns
returns g c =
    let all = c.try_for_each.ensures.ran in
    ran_on_bytes g.F.FnMut (λ (s : Lines). s.rest.now) _ _ c.args.run all.2 (record { rest = c.args.bytes }) c.try_for_each.new.self all.0 all.1 c.try_for_each.result all.3 all.4 all.5 (λ x t. t.5.0)
