use Rattle.std.proofs.Common.{arith}
use Rattle.pair.proofs.Quotients.{over_most}
use Rattle.pair.proofs.wide.quotient.Goals as goal

pub overflow_add-result : goal.overflow_add-result
overflow_add-result g c =
    let laws = g.R.Rounding.laws in
    let parts = laws.parts c.args.n c.args.d c.requires in
    grind (arith, parts, over_most laws c.args.n c.args.d c.requires)

pub returns : goal.returns
returns g c = let e = g.R.Rounding.laws.parts c.args.n c.args.d c.requires in grind (arith, e)
