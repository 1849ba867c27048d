use Rattle.std.proofs.Common.{◌≡◌, take}
use Rattle.questions.specs.Buffers.{over}
use Rattle.lines.proofs.texts.RefSliceU8Text.put.Given as goal

-- the bytes so far stand in front
abbrev pub invariant-loop-at : goal.invariant-loop-at
invariant-loop-at l = l.out ≡ over (take l.at l.byte-items) l.initial.out
