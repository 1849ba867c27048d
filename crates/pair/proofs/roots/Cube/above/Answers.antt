use Rattle.std.proofs.Common.{arith, refl, sym}
use Rattle.pair.proofs.Extraction.{cube_rooted}
use Rattle.pair.proofs.UpperRoot.{lower_cube_fits, cube_left_fits, cube_first_fits, cube_inner_fits, cube_step_fits, cube_nothing_left, cube_stepped}
use Rattle.pair.proofs.roots.Cube.above.Goals as goal

pub overflow_add-left : goal.overflow_add-left
overflow_add-left c =
    omega (arith, cube_left_fits c.args.s.units c.requires.order c.requires.fits (cube_rooted c.args.self c.requires.taken) c.if-more-lt16384.true c.if-s-lt16777216.true)

pub overflow_add-gap : goal.overflow_add-gap
overflow_add-gap c = omega (arith, lower_cube_fits c.args.s.units c.requires.order c.requires.fits (cube_rooted c.args.self c.requires.taken))

pub overflow_add-d : goal.overflow_add-d
overflow_add-d c =
    omega (arith, cube_left_fits c.args.s.units c.requires.order c.requires.fits (cube_rooted c.args.self c.requires.taken) c.if-more-lt16384.true c.if-s-lt16777216.true)

pub overflow_add-d-then-s-lt16777216 : goal.overflow_add-d-then-s-lt16777216
overflow_add-d-then-s-lt16777216 c = omega (arith, lower_cube_fits c.args.s.units c.requires.order c.requires.fits (cube_rooted c.args.self c.requires.taken))

pub returns-then-d-eq0 : goal.returns-then-d-eq0
returns-then-d-eq0 c = cube_nothing_left c.args.s.units c.requires.order c.requires.fits (cube_rooted c.args.self c.requires.taken) (sym c.if-d-eq0.true)

pub overflow_mul-d : goal.overflow_mul-d
overflow_mul-d c = record { fits = cube_first_fits c.args.s.units c.requires.order c.requires.fits (cube_rooted c.args.self c.requires.taken) _ (omega (arith, c.if-d-lt1024.true)) }

pub overflow_add-self : goal.overflow_add-self
overflow_add-self c = record { fits = cube_inner_fits c.args.s.units c.requires.order c.requires.fits (cube_rooted c.args.self c.requires.taken) _ (omega (arith, c.if-d-lt1024.true)) }

pub overflow_mul-d-then-d-lt1024 : goal.overflow_mul-d-then-d-lt1024
overflow_mul-d-then-d-lt1024 c = record { fits = cube_step_fits c.args.s.units c.requires.order c.requires.fits (cube_rooted c.args.self c.requires.taken) _ (omega (arith, c.if-d-lt1024.true)) }

pub returns-then-d-self : goal.returns-then-d-self
returns-then-d-self c =
    cube_stepped c.args.s.units c.requires.order c.requires.fits (cube_rooted c.args.self c.requires.taken) _ refl c.if-d-eq0.false c.if-d-self.true
