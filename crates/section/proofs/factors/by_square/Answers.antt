use Rattle.std.proofs.Common.{ap, ◌∙◌, ◌+◌}
use Rattle.section.proofs.BySquares.{by_square_is}
use Rattle.section.proofs.factors.by_square.Goals as goal

pub returns : goal.returns
returns g c =
    let t = c.twice_by-whole in
    ap (λ x. t.result.0 + x) c.thrice_by.ensures ∙ by_square_is t.ensures g.R.Rounding.laws
