-- The rows of a table of lines: a key, and what may stand behind it. A table is a list of them, in the order of the lines.
use Rattle.std.specs.Prelude.{ℕ, List}
use Rattle.lines.specs.declared.keys.Kind.{Kind}
use Rattle.lines.specs.declared.keys.Key.{Key}

-- a line: its key with the '=', and the kind of its value
pub record Field : Type 0 where
  pub key : List ℕ
  pub kind : Kind

-- what a row of the code stands for
abbrev pub field : Key → Field
field k = record { key = k.text.now; kind = k.kind }
