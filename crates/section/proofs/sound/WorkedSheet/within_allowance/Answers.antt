-- `section::sound::WorkedSheet::within_allowance` meets its contract.
use native.Mathlib.Omega.{arith}
use Rattle.section.proofs.Printing.{area_small}
use Rattle.section.proofs.sound.WorkedSheet.within_allowance.Goals as goal

pub overflow_mul-result : goal.overflow_mul-result
overflow_mul-result c = omega (arith, area_small c.args.self.now)
