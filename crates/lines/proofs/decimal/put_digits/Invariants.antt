use Rattle.std.proofs.Common.{◌≡◌, length}
use Rattle.questions.specs.Buffers.{over}
use Rattle.lines.specs.Decimal.{fixed_text}
use Rattle.lines.proofs.decimal.put_digits.Given as goal

-- with the digits that are left in front, all are written
abbrev pub invariant-loop-at : goal.invariant-loop-at
invariant-loop-at l =
    (length l.out ≡ length l.initial.out) × (over (fixed_text l.at l.left) l.out ≡ over (fixed_text l.digits l.n) l.initial.out)
