-- `section::factors::Slenderness::share` meets its contract.
use Rattle.std.proofs.Common.{◌/◌, ◌∙◌}
use Rattle.std.proofs.Math.Nat.{le_trans}
use Rattle.pair.specs.Rounding.{ceil_div}
use Rattle.pair.specs.Pairs.{◌to◌}
use Rattle.section.specs.Working.{ρ}
use Rattle.section.proofs.Ends.{exact_ends}
use Rattle.section.proofs.ShareForms.{upper_end, lower_end, full_end, share_end}
use Rattle.section.proofs.factors.Slenderness.share.Goals as goal

pub returns-then-hi-limit : goal.returns-then-hi-limit
unfolding ρ
returns-then-hi-limit c =
    let upper = upper_end c.args.self c.args.curve in
    let lower = lower_end c.args.self c.args.curve in
    let all = c.if-hi-limit.true in
    let S = c.units-units.ensures in
    c.exact.ensures ∙ exact_ends c.units-units.result ∙ (λ i. (S ∙ full_end upper ◌/◌ all) i to (S ∙ full_end lower ceil_div (le_trans c.args.self.order all)) i)

pub returns-then-lo-limit : goal.returns-then-lo-limit
unfolding ρ
returns-then-lo-limit c =
    let upper = upper_end c.args.self c.args.curve in
    let lower = lower_end c.args.self c.args.curve in
    let S = c.units-units.ensures in
    λ i. share_end upper ◌/◌ c.if-hi-limit.false (rw S at c.by_square.ensures) (rw S at c.min-least.ensures) i to (S ∙ full_end lower ceil_div c.if-lo-limit.true) i

pub returns : goal.returns
unfolding ρ
returns c =
    let upper = upper_end c.args.self c.args.curve in
    let lower = lower_end c.args.self c.args.curve in
    let S = c.units-units.ensures in
    λ i. share_end upper ◌/◌ c.if-hi-limit.false (rw S at c.by_square.ensures) (rw S at c.min-least.ensures) i
    to share_end lower ceil_div c.if-lo-limit.false (rw S at c.by_square-2.ensures) (rw S at c.min-most.ensures) i
