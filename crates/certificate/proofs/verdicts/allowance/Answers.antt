-- `certificate::verdicts::allowance` meets its contract.
use Rattle.std.proofs.Common.{arith}
use Rattle.std.proofs.lemmas.Grind.{common_steps}
use Rattle.certificate.proofs.Steps.{eleventh_unmet}
use Rattle.certificate.proofs.verdicts.allowance.Goals as goal

pub returns-in_err-ask : goal.returns-in_err-ask
returns-in_err-ask c =
    let worked = c.work-worked.ensures in
    let e = eleventh_unmet c.args.sound.sheet worked.scale c.scale.ensures worked.sheet c.within_allowance.ensures c.ask.ensures c.in_err-ask.was in
    grind (arith, common_steps, e)
