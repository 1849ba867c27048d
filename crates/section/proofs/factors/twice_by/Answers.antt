-- `section::factors::twice_by` meets its contract.
use Rattle.section.proofs.BySquares.{square_divided}
use Rattle.section.proofs.factors.twice_by.Goals as goal

pub returns : goal.returns
returns c = square_divided c.requires
