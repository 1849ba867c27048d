-- `section::coefficients::coefficient` meets its contract.
use Rattle.section.proofs.Ends.{scale-Fine}
use Rattle.section.proofs.CoefficientForms.{past_room, k_past_is}
use Rattle.section.proofs.coefficients.coefficient.Goals as goal

pub coefficient_past-requires : goal.coefficient_past-requires
coefficient_past-requires c = past_room (scale-Fine c.args.s) c.requires c.if-s-q.true

pub returns-then-s-q : goal.returns-then-s-q
returns-then-s-q c = k_past_is (scale-Fine c.args.s) c.requires c.if-s-q.true c.coefficient_past.ensures
