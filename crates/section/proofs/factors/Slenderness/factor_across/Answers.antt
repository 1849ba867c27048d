-- `section::factors::Slenderness::factor_across` meets its contract.
use Rattle.std.proofs.Common.{◌≡◌, arith, ap, ap₂, ◌∙◌, ℕ, ◌*◌, min, max}
use Rattle.pair.specs.Rounding.{ceil_div}
use Rattle.section.proofs.FactorForms.{factor_across}
use Rattle.section.proofs.factors.Slenderness.factor_across.Goals as goal

pub returns : goal.returns
returns c =
    let n = c.args.self.scale.fineness in
    let even : 66 * c.units.result ≡ 66 * n * 1000000 = omega arith in
    let lo = c.min.ensures ∙ ap (λ (x : ℕ). min x (n * 472260)) c.past_jump.ensures in
    let hi = c.max.ensures ∙ ap₂ max c.before_jump.ensures (c.quotient.ensures ∙ ap (λ (x : ℕ). ceil_div x 138) even) in
    (λ i. record { lo = lo i; hi = hi i }) ∙ factor_across n c.args.self.u (omega arith) (omega arith)
