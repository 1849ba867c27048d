use Rattle.std.proofs.Math.Nat.{lt_of_le_of_lt, mul-le-mul_right}
use Rattle.std.proofs.Common.{◌*◌}
use Rattle.pair.specs.Pairs.{cube_root}
use Rattle.pair.proofs.Fitting.{cube_root_out}
use Rattle.pair.proofs.Extraction.{cube_rooted, cube_down}
use Rattle.pair.proofs.Pair.cube_root.Goals as goal

pub invariant_of-s : goal.invariant_of-s
invariant_of-s c = record { digits = (cube_root_out c.args.s c.args.self c.requires).1 }

pub scaled-below-requires : goal.scaled-below-requires
scaled-below-requires c =
    let fit = cube_root_out c.args.s c.args.self c.requires in
    lt_of_le_of_lt (mul-le-mul_right (c.args.s * c.args.s) fit.0) fit.2

pub above-requires : goal.above-requires
above-requires c =
    let fit = cube_root_out c.args.s c.args.self c.requires in
    record { order = fit.0; fits = fit.2; taken = c.scaled-below.ensures }

pub returns : goal.returns
unfolding cube_root
returns c = λ i. record { lo = cube_down (cube_rooted c.scaled-below.result c.scaled-below.ensures) i; hi = c.above.ensures i }
