-- `section::rounds::next_round` meets its contract.
use Rattle.std.proofs.Common.{◌≡◌, arith}
use Rattle.std.proofs.lemmas.Grind.{common_steps}
use Rattle.section.specs.Working.{stiffener_of}
use Rattle.section.proofs.RoundForms.{stays}
use Rattle.section.proofs.rounds.next_round.Goals as goal

pub returns-then-eq : goal.returns-then-eq
returns-then-eq c =
    let x = c.args.x in
    let last = c.args.last in
    let one : stiffener_of c.args.s.fineness x.common.cp x.flanges.one last.one.chi ≡ last.one.stiffener = grind (arith, common_steps) in
    let two : stiffener_of c.args.s.fineness x.common.cp x.flanges.two last.two.chi ≡ last.two.stiffener = grind (arith, common_steps) in
    stays _ x last c.requires.own one two
