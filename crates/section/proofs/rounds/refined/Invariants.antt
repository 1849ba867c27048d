-- `section::rounds::refined` meets its contract. The loop's invariant: r is the round after so many refinings.
use mathlib.Core.Path.{◌≡◌}
use Rattle.section.specs.Working.{rounds}
use Rattle.section.proofs.rounds.refined.Given as goal

abbrev pub invariant-loop : goal.invariant-loop
invariant-loop l = l.r ≡ rounds l.s.fineness l.x l.counter
