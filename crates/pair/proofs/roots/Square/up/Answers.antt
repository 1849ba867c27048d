use Rattle.std.proofs.Common.{refl, ◌∙◌, ap, ◌+◌}
use Rattle.pair.proofs.Extraction.{square_rooted, square_rounded}
use Rattle.pair.proofs.roots.Square.up.Goals as goal

pub returns : goal.returns
returns c = ap (λ x. c.args.self.root + x) c.min.ensures ∙ square_rounded (square_rooted c.args.self refl)
