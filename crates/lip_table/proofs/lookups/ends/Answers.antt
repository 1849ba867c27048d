-- `lookups::ends` meets its contract.
use Prim.Native.Nat.{◌≤◌}
use mathlib.Core.Path.{◌≡◌}
use native.Mathlib.Omega.{arith}
use Rattle.std.proofs.lemmas.Grind.{common_steps}
use Rattle.lip_table.specs.Tables.{least_ratio, most_ratio, entry_below, entry_above}
use Rattle.lip_table.proofs.Told.{below_near, above_near, ends_found}
use Rattle.lip_table.proofs.lookups.ends.Goals as goal

pub returns : goal.returns
unfolding entry_below
returns c =
    let a = c.args.ratio in
    let l : least_ratio ≤ a = grind (arith, common_steps) in
    let h : a ≤ most_ratio = grind (arith, common_steps) in
    let above : c.div_ceil-above.result ≡ entry_above a = omega (arith, c.div_ceil-above.ensures, above_near a) in
    ends_found a _ l h c.table-table.ensures (omega arith) above (omega (arith, below_near a, h)) (omega (arith, above_near a, above, h))
