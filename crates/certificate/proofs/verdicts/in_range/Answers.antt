-- `certificate::verdicts::in_range` meets its contract.
use mathlib.Core.Path.{◌∙◌}
use Rattle.certificate.specs.declared.Refusal.TheVariants.{Range}
use Rattle.certificate.proofs.Steps.{found_by_table}
use Rattle.certificate.proofs.verdicts.in_range.Goals as goal

pub returns : goal.returns
returns c =
    c.refused_at.ensures Range (λ l r w e. e)
    ∙ found_by_table c.args.q c.args.spans.now c.first_outside-place.ensures.value c.requires c.from.ensures
