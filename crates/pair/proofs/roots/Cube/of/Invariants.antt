-- The root so far is that of the digits taken in.
use Rattle.std.proofs.Common.{◌*◌, ◌/◌, ◌^◌}
use Rattle.pair.specs.Remainders.{CubeRooted}
use Rattle.pair.proofs.roots.Cube.of.Given as goal

abbrev pub invariant-loop-at : goal.invariant-loop-at
invariant-loop-at l = CubeRooted (l.n / 2 ^ (l.at * 3)) l.t.0 l.t.1.0 l.t.1.1.0
