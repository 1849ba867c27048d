use Rattle.std.proofs.Common.{length}
use Rattle.lines.specs.Decimal.{row_text}
use Rattle.lines.proofs.LentParts.{Writing}
use Rattle.lines.proofs.rows.RowText.put.Given as goal

abbrev pub invariant-loop-number : goal.invariant-loop-number
invariant-loop-number l = Writing (row_text l.left) (row_text l.self.0.now) l.initial.out l.at l.out

abbrev pub decreases-loop-number : goal.decreases-loop-number
decreases-loop-number l = length l.left
