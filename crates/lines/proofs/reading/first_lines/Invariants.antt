use Rattle.lines.proofs.ReadLoop.{FirstRead}
use Rattle.lines.proofs.reading.first_lines.Given as goal

-- the values so far stand in front of zeros, and what is left is still to be read
abbrev pub invariant-loop-i : goal.invariant-loop-i
invariant-loop-i g l = FirstRead g.row.N l.keys l.s l.i l.values l.rest
