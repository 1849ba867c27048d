-- The table in the form in which the code holds it.
use Rattle.std.specs.Prelude.{ℕ, List, map}
use Rattle.lip_table.specs.declared.entries.Entry.{Entry}
use Rattle.lip_table.specs.Tables.{places, lower, upper}

unfoldable pub table_entry : ℕ → Entry
table_entry i = record { 0 = lower i; 1 = upper i }

unfoldable pub table_entries : List Entry
table_entries = map table_entry places
