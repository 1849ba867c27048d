-- `section::rounds::refined` meets its contract.
use Rattle.std.proofs.Common.{◌≡◌, arith}
use Rattle.std.proofs.lemmas.Grind.{common_steps}
use Rattle.section.proofs.Ends.{scale-Fine}
use Rattle.section.proofs.RoundForms.{next_room, at_most_own, next_round, settled_is}
use Rattle.section.proofs.rounds.refined.Goals as goal

pub next_round-next-requires-clause-room : goal.next_round-next-requires-clause-room
next_round-next-requires-clause-room c = next_room _ c.args.x (scale-Fine c.args.s) c.requires.steady c.loop.counter c.loop.invariant

pub next_round-next-requires-clause-own : goal.next_round-next-requires-clause-own
next_round-next-requires-clause-own c = at_most_own _ c.args.x c.loop.counter c.loop.invariant

pub returns-then-eq : goal.returns-then-eq
returns-then-eq c =
    let one : c.next_round-next.result.one.chi ≡ c.loop.r.one.chi = grind (arith, common_steps) in
    let two : c.next_round-next.result.two.chi ≡ c.loop.r.two.chi = grind (arith, common_steps) in
    settled_is _ c.args.x c.loop.counter c.args.times c.loop.invariant c.next_round-next.ensures one two c.loop-test.true

pub loop-preserved : goal.loop-preserved
loop-preserved c = next_round _ _ c.loop.counter c.loop.invariant c.next_round-next.ensures
