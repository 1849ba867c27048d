use Rattle.std.proofs.Common.{drop}
use Rattle.lines.specs.Splitting.{all_texts}
use Rattle.lines.proofs.LentParts.{Writing}
use Rattle.lines.proofs.texts.RefSliceText.put.Given as goal

abbrev pub invariant-loop-text : goal.invariant-loop-text
invariant-loop-text g l =
    Writing (all_texts g.T.Text.bytes (drop l.text-index l.text-items)) (all_texts g.T.Text.bytes l.text-items) l.initial.out l.at l.out
