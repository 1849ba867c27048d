-- The laws by which a formula nests, in one set: `search inside depth 20` under `unfolding FORMULA` shows that the formula worked
-- at a finer scale lies inside the same formula worked at the coarser one.
use Rattle.pair.proofs.PairLaws.{exact-Inside, exact-Positive, ratio-Inside, ratio-Positive, plus-Inside, minus-Inside, times-Inside, over-Inside, root-Inside, cube_root-Inside, smaller-Inside}
use Rattle.pair.proofs.SignedLaws.{signed_inside, difference-Inside, signed_plus_inside, signed_minus_inside, coarser_inside}
use Rattle.pair.proofs.SignedProducts.{signed_times_inside, signed_over-Inside}

pub ruleset inside = (
  exact-Inside,
  exact-Positive,
  ratio-Inside,
  ratio-Positive,
  plus-Inside,
  minus-Inside,
  times-Inside,
  over-Inside,
  root-Inside,
  cube_root-Inside,
  smaller-Inside,
  signed_inside,
  difference-Inside,
  signed_plus_inside,
  signed_minus_inside,
  signed_times_inside,
  signed_over-Inside,
  coarser_inside,
)
