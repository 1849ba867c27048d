use Rattle.std.proofs.Common.{◌≡◌}
use Rattle.std.specs.Slice.Iter.{chunks_rest, chunks_size}
use Rattle.lines.specs.Runs.{runs, rows_text}
use Rattle.lines.proofs.LentParts.{Writing}
use Rattle.lines.proofs.rows.RowsText.put.Given as goal

abbrev pub invariant-loop-row : goal.invariant-loop-row
invariant-loop-row l =
    let left = rows_text (runs l.self.width (chunks_rest l.row-iterator)) in
    let whole = rows_text (runs l.self.width l.self.numbers.now) in
    (goal.iterator-loop-row).can_next l.row-iterator
    × (goal.iterator-loop-row).is_finite l.row-iterator
    × (chunks_size l.row-iterator ≡ l.self.width)
    × Writing left whole l.initial.out l.at l.out
