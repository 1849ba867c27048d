-- The measure is the number.
use Rattle.lines.proofs.decimal.+size_width.Given as goal

abbrev pub decreases-size_width : goal.decreases-size_width
decreases-size_width l = l.n
