use Rattle.std.proofs.Common.{arith, ◌*◌}
use Rattle.pair.proofs.wide.by.Goals as goal

pub overflow_add-result : goal.overflow_add-result
overflow_add-result g c = let e = g.R.Rounding.laws.parts (c.args.a * c.args.b) c.args.d c.requires.some in grind (arith, e)

pub returns : goal.returns
returns g c = let e = g.R.Rounding.laws.parts (c.args.a * c.args.b) c.args.d c.requires.some in grind (arith, e)
