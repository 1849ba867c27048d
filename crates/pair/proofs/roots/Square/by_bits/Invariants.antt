-- The root so far is that of the digits taken in.
use Rattle.std.proofs.Common.{◌*◌, ◌/◌, ◌^◌}
use Rattle.pair.specs.Remainders.{SquareRooted}
use Rattle.pair.proofs.roots.Square.by_bits.Given as goal

abbrev pub invariant-loop-at : goal.invariant-loop-at
invariant-loop-at l = SquareRooted (l.n / 2 ^ (l.at * 2)) l.t.0 l.t.1.0
