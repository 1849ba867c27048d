-- The measure is what is left of the case.
use Prim.Native.Nat.{◌-◌, ◌≤◌}
use lib.ListN.{length}
use Rattle.lines_cases.proofs.commands.split.Given as goal

abbrev pub invariant-loop-at : goal.invariant-loop-at
invariant-loop-at g l = l.at ≤ length l.case

abbrev pub decreases-loop-at : goal.decreases-loop-at
decreases-loop-at g l = length l.case - l.at
