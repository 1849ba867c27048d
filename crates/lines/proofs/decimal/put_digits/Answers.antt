use mathlib.Core.Path.{◌∙◌}
use native.Mathlib.Omega.{arith}
use lib.ListN.{length-set}
use Rattle.lines.proofs.DecimalLaws.{fixed_next}
use Rattle.lines.proofs.decimal.put_digits.Goals as goal

pub loop-at-preserved : goal.loop-at-preserved
loop-at-preserved c =
    let i = c.loop-at.invariant in
    (simp length-set i.0, fixed_next c.loop-at.at c.loop-at.left c.loop-at.out (omega arith) (omega arith) ∙ i.1)
