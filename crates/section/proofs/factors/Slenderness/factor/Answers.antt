-- `section::factors::Slenderness::factor` meets its contract.
use Rattle.std.proofs.Common.{◌∙◌}
use Rattle.section.proofs.FactorForms.{factor_below, factor_beyond}
use Rattle.section.proofs.factors.Slenderness.factor.Goals as goal

pub returns-then-hi-jump : goal.returns-then-hi-jump
returns-then-hi-jump c =
    (λ i. record { lo = c.before_jump.ensures i; hi = c.before_jump-then-hi-jump.ensures i }) ∙ factor_below _ c.args.self.u c.if-hi-jump.true

pub returns : goal.returns
returns c = (λ i. record { lo = c.past_jump.ensures i; hi = c.past_jump-2.ensures i }) ∙ factor_beyond _ c.args.self.u c.if-lo-jump.false c.args.self.order
