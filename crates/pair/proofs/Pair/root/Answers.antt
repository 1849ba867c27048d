use Rattle.std.proofs.Math.Nat.{lt_of_le_of_lt, mul-le-mul_right}
use Rattle.pair.specs.Pairs.{root}
use Rattle.pair.proofs.Fitting.{root_out}
use Rattle.pair.proofs.Extraction.{square_rooted, square_down}
use Rattle.pair.proofs.Pair.root.Goals as goal

pub invariant_of-s : goal.invariant_of-s
invariant_of-s c = record { digits = (root_out c.args.s c.args.self c.requires).1 }

pub scaled-below-requires : goal.scaled-below-requires
scaled-below-requires c =
    let fit = root_out c.args.s c.args.self c.requires in
    lt_of_le_of_lt (mul-le-mul_right c.args.s fit.0) fit.2

pub above-requires : goal.above-requires
above-requires c =
    let fit = root_out c.args.s c.args.self c.requires in
    record { order = fit.0; fits = fit.2; taken = c.scaled-below.ensures }

pub returns : goal.returns
unfolding root
returns c = λ i. record { lo = square_down (square_rooted c.scaled-below.result c.scaled-below.ensures) i; hi = c.above.ensures i }
