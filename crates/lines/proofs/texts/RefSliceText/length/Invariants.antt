use Rattle.std.proofs.Common.{◌≡◌, ◌+◌, length, drop}
use Rattle.lines.specs.Splitting.{all_texts}
use Rattle.lines.proofs.texts.RefSliceText.length.Given as goal

abbrev pub invariant-loop-text : goal.invariant-loop-text
invariant-loop-text g l =
    l.n + length (all_texts g.T.Text.bytes (drop l.text-index l.text-items)) ≡ length (all_texts g.T.Text.bytes l.text-items)
