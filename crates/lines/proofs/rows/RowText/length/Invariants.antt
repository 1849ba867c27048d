use Rattle.std.proofs.Common.{◌≡◌, ◌+◌, length, drop}
use Rattle.lines.specs.Decimal.{row_text}
use Rattle.lines.proofs.rows.RowText.length.Given as goal

abbrev pub invariant-loop-number : goal.invariant-loop-number
invariant-loop-number l = l.n + length (row_text (drop l.number-index l.number-items)) ≡ length (row_text l.number-items)
