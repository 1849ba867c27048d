use Rattle.std.proofs.Common.{arith, ◌*◌, ◌/◌, ◌%◌, ◌^◌, ◌-◌}
use Rattle.std.proofs.Math.Nat.{le_refl}
use Rattle.pair.proofs.Digits.{none_above, next_digit}
use Rattle.pair.proofs.Extraction.{cube_digit}
use Rattle.pair.proofs.roots.Cube.of.Goals as goal

pub loop-at-init : goal.loop-at-init
loop-at-init c =
    let n = c.args.n in
    record { sum = omega (arith, (none_above n n (le_refl n) c.ranges.n.fits).1); small = omega arith; triple = omega arith }

pub loop-at-preserved : goal.loop-at-preserved
loop-at-preserved c =
    let n = c.args.n in
    let at = c.loop-at.at in
    let t = c.with_digit-t in
    cube_digit (n / 2 ^ ((at - 1) * 3) % 8) c.loop-at.invariant (next_digit n at 3 c.loop-at-test.true) t.ensures t.result.small t.result.thrice
