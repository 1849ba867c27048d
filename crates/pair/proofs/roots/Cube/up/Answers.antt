use Rattle.std.proofs.Common.{refl, ◌∙◌, ap, ◌+◌}
use Rattle.pair.proofs.Extraction.{cube_rooted, cube_rounded}
use Rattle.pair.proofs.roots.Cube.up.Goals as goal

pub returns : goal.returns
returns c = ap (λ x. c.args.self.root + x) c.min.ensures ∙ cube_rounded (cube_rooted c.args.self refl)
