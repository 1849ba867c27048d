-- The measure is the number.
use Rattle.lines.proofs.decimal.+put_size.Given as goal

abbrev pub decreases-put_size : goal.decreases-put_size
decreases-put_size l = l.n
