-- `entries::table` meets its contract: k is computed at the ratio of each entry, and each number is compared. So this file opens the
-- formulas of pair and of section, which no other proof of this crate does.
use mathlib.Core.Path.{refl}
use Rattle.pair.specs.Rounding.{ceil_div, root_up}
use Rattle.pair.specs.Pairs.{exact, ratio, plus, minus, times, cube_root}
use Rattle.section.specs.Working.{k_past, k_at, k}
use Rattle.lip_table.specs.Tables.{ratio_of, entry, places}
use Rattle.lip_table.specs.Forms.{table_entry, table_entries}
use Rattle.lip_table.proofs.entries.table.Goals as goal

pub returns : goal.returns
unfolding ceil_div root_up exact ratio plus minus times cube_root k_past k_at k ratio_of entry places table_entry table_entries
returns c = refl
