-- `section::stiffeners::stress` meets its contract.
use lib.Dec.{lit<}
use Rattle.pair.proofs.Laws.{over_twice, over_twice_fits}
use Rattle.section.specs.Working.{stress_of}
use Rattle.section.proofs.stiffeners.stress.Goals as goal

pub over_ratio-requires : goal.over_ratio-requires
over_ratio-requires c = rw (c.constant_times.ensures, c.units.ensures) (over_twice_fits _ _ _ 100 210 c.requires.thick c.requires.modulus)

pub returns : goal.returns
unfolding stress_of
returns c = rw (c.over_ratio.ensures, c.constant_times.ensures, c.units.ensures) (over_twice _ _ _ 100 210 (lit< tt) c.requires.thick)
