-- How long the lines of the table can be.
use Prim.Native.Nat.{ℕ, ◌≤◌}
use mathlib.Core.List.{List}
use mathlib.Core.Path.{◌≡◌, refl, sym}
use native.Mathlib.Omega.{arith}
use lib.IntN.{ℤ}
use lib.ListN.{length}
use Rattle.std.specs.Prelude.{Result, Ok, Err, IfOk}
use Rattle.lines.specs.declared.reading.BadLine.{BadLine}
use Rattle.lines.specs.Forms.{reading}
use Rattle.lines.specs.Reading.{read_lines}
use Rattle.lines.specs.Texts.{longest_line, longest, lines_text}
use Rattle.lines.proofs.Laws.{reads_values, text_at_most}
use Rattle.lines_cases.specs.Table.{table}

longest_table : longest table ≡ 60
unfolding longest_line longest table
longest_table = refl

pub read_text : (s : List ℕ) (r : Result (List ℤ) BadLine) → reading r ≡ read_lines table s → IfOk r (λ vs. length (lines_text table vs) ≤ 60)
read_text s (Ok vs) e = omega (arith, text_at_most table vs ((reads_values table s vs).0 (sym e)).spelt, longest_table)
read_text s (Err b) e = tt
