-- `section::coefficients::coefficient_at` meets its contract.
use mathlib.Core.Path.{◌∙◌}
use Rattle.section.proofs.Ends.{scale-Fine, exact_ends}
use Rattle.section.proofs.CoefficientForms.{at_ratio, past_room}
use Rattle.section.proofs.coefficients.coefficient_at.Goals as goal

pub coefficient_past-requires : goal.coefficient_past-requires
coefficient_past-requires c = rw (c.exact.ensures ∙ exact_ends c.args.q) (past_room (scale-Fine c.args.s) (at_ratio c.requires) c.if-q-s.false)
