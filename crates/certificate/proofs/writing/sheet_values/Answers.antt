use mathlib.Core.List.{map}
use mathlib.Core.Path.{ap, ◌∙◌}
use lib.IntN.{pos}
use Rattle.std.proofs.Common.{rules}
use Rattle.certificate.specs.Certificates.{sheet_values}
use Rattle.certificate.proofs.Arrays.{mapped}
use Rattle.certificate.proofs.writing.sheet_values.Goals as goal

pub returns : goal.returns
unfolding sheet_values
returns c = mapped pos 0 c.map.ensures.items (search rules) (λ p q x y k. k.met) ∙ ap (map pos) c.from.ensures
