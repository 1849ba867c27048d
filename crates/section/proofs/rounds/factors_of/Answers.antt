-- `section::rounds::factors_of` meets its contract.
use Rattle.std.proofs.Common.{◌≡◌, arith}
use Rattle.std.proofs.lemmas.Grind.{common_steps}
use Rattle.section.proofs.RoundForms.{equal_room}
use Rattle.section.proofs.rounds.factors_of.Goals as goal

pub equal_factors-requires : goal.equal_factors-requires
equal_factors-requires c =
    let wide : c.args.x.flanges.one.bp ≡ c.args.x.flanges.two.bp = grind (arith, common_steps) in
    let same : c.args.y.one ≡ c.args.y.two = grind (arith, common_steps) in
    equal_room _ c.args.x c.requires wide same
