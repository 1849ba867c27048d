-- What the program prints: the table. (docs/WORKING.md, 15.2.)
use Rattle.std.specs.Prelude.{ℕ, List}
use Rattle.lip_table.specs.Tables.{table_text}

abbrev pub tabulate_prints : List ℕ
tabulate_prints = table_text
