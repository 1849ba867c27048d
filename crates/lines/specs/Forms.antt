-- What the code's answers stand for.
use Rattle.std.specs.Prelude.{ℕ, ◌-◌, List, ◌++◌, length, replicate, ℤ, pos, Option, None, Some, Result, Ok, Err}
use Rattle.std.specs.Borrow.{Bor}
use Rattle.lines.specs.Reading.{Front, got, bad, Reading, values, bad_line}
use Rattle.lines.specs.declared.reading.BadLine.{BadLine}

-- what a reader finds: a value, and the bytes behind its newline
abbrev pub found : Option (ℤ × Bor (List ℕ)) → Front
found None = bad
found (Some p) = got p.0 p.1.now

-- the same, where the value is a number
abbrev pub found_number : Option (ℕ × Bor (List ℕ)) → Front
found_number None = bad
found_number (Some p) = got (pos p.0) p.1.now

-- what reading a table answers: its values, or the first bad line
abbrev pub reading : Result (List ℤ) BadLine → Reading
reading (Ok vs) = values vs
reading (Err e) = bad_line e.0

-- the same in room for N values: zeros stand behind those that are read
unfoldable pub padded : ℕ → Reading → Result (List ℤ) BadLine
padded N (values vs) = Ok (vs ++ replicate (N - length vs) (pos 0))
padded N (bad_line l) = Err (record { 0 = l })
