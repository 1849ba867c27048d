use Rattle.std.proofs.Common.{arith, refl, sym}
use Rattle.pair.proofs.Extraction.{square_rooted}
use Rattle.pair.proofs.UpperRoot.{lower_square_fits, square_step_fits, square_nothing_left, square_stepped}
use Rattle.pair.proofs.roots.Square.above.Goals as goal

pub returns-then-d-eq0 : goal.returns-then-d-eq0
returns-then-d-eq0 c =
    square_nothing_left c.args.s.units c.requires.order c.requires.fits (square_rooted c.args.self c.requires.taken) (sym c.if-d-eq0.true)

pub overflow_mul-d : goal.overflow_mul-d
overflow_mul-d c =
    omega (arith, square_step_fits c.args.s.units c.requires.order c.requires.fits (square_rooted c.args.self c.requires.taken) _ c.if-d-lt1048576.true)

pub overflow_add-result : goal.overflow_add-result
overflow_add-result c =
    omega (arith, lower_square_fits c.args.s.units c.requires.order c.requires.fits (square_rooted c.args.self c.requires.taken))

pub returns-then-d-twice : goal.returns-then-d-twice
returns-then-d-twice c =
    square_stepped c.args.s.units c.requires.order c.requires.fits (square_rooted c.args.self c.requires.taken) _ refl c.if-d-eq0.false c.if-d-twice.true
