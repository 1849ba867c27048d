use Rattle.std.proofs.Common.{map}
use Rattle.std.specs.Slice.Iter.{iter_rest}
use Rattle.std.specs.Iterator.Adapters.{zip_first, zip_second}
use Rattle.lines.specs.Fields.{field}
use Rattle.lines.specs.Texts.{lines_text}
use Rattle.lines.proofs.LentParts.{Writing}
use Rattle.lines.proofs.writing.LinesText.put.Given as goal

abbrev pub invariant-loop-key : goal.invariant-loop-key
invariant-loop-key l =
    let left = lines_text (map field (iter_rest (zip_first l.key-iterator))) (iter_rest (zip_second l.key-iterator)) in
    let whole = lines_text (map field l.self.keys.now) l.self.values.now in
    (goal.iterator-loop-key).can_next l.key-iterator
    × (goal.iterator-loop-key).is_finite l.key-iterator
    × Writing left whole l.initial.out l.at l.out
