use Rattle.std.proofs.Common.{◌≡◌, suc, ◌-◌, ◌*◌, ◌^◌, ◌≤◌}
use Rattle.lines.specs.Texts.{most_digits}
use Rattle.lines.specs.Reading.{read_digits}
use Rattle.lines.proofs.reading.digits.Given as goal

-- what is left to read gives what is to be read
abbrev pub invariant-loop : goal.invariant-loop
invariant-loop l =
    (read_digits (l.most - l.counter) l.n l.rest ≡ read_digits l.most l.begun l.s)
    × (suc l.n * 10 ^ (l.most - l.counter) ≤ 10 ^ most_digits)
