use Rattle.std.proofs.Common.{arith, ◌*◌, ◌/◌, ◌%◌, ◌^◌, ◌-◌}
use Rattle.std.proofs.Math.Nat.{le_refl}
use Rattle.pair.proofs.Digits.{none_above, next_digit}
use Rattle.pair.proofs.Extraction.{square_digit}
use Rattle.pair.proofs.roots.Square.by_bits.Goals as goal

pub loop-at-init : goal.loop-at-init
loop-at-init c =
    let n = c.args.n in
    record { sum = omega (arith, (none_above n n (le_refl n) c.ranges.n.fits).0); small = omega arith }

pub loop-at-preserved : goal.loop-at-preserved
loop-at-preserved c =
    let n = c.args.n in
    let at = c.loop-at.at in
    let t = c.with_digit-t in
    square_digit (n / 2 ^ ((at - 1) * 2) % 4) c.loop-at.invariant (next_digit n at 2 c.loop-at-test.true) t.ensures t.result.small
