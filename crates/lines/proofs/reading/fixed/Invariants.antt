use Rattle.std.proofs.Common.{◌≡◌, suc, ◌-◌, ◌*◌, ◌^◌, ◌≤◌}
use Rattle.lines.specs.Decimal.{most_fixed}
use Rattle.lines.specs.Reading.{read_fixed}
use Rattle.lines.proofs.reading.fixed.Given as goal

-- what is left to read gives what is to be read
abbrev pub invariant-loop : goal.invariant-loop
invariant-loop l =
    (read_fixed (l.digits - l.counter) l.n l.rest ≡ read_fixed l.digits 0 l.s)
    × (suc l.n * 10 ^ (l.digits - l.counter) ≤ 10 ^ most_fixed)
