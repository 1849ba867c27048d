-- What is promised of a lookup in the table. The theorems stand in proofs/Promises.
use Rattle.std.specs.Prelude.{ℕ, suc, ◌+◌, ◌*◌, ◌≤◌, ◌<◌, ◌≡◌}
use Rattle.pair.specs.Pairs.{◌to◌}
use Rattle.pair.specs.Enclosure.{Inside}
use Rattle.pair.specs.declared.Pair.{Pair}
use Rattle.section.specs.Working.{k}
use Rattle.lip_table.specs.declared.Coefficient.{Coefficient}
use Rattle.lip_table.specs.Tables.{least_ratio, most_ratio, step, entry_count, ratio_of, ends}

-- from 0.350 to 0.600, in millionths
pub record InRange (ratio : ℕ) : Type 0 where
  pub least : least_ratio ≤ ratio
  pub most : ratio ≤ most_ratio

abbrev pub ends_of : Coefficient → Pair
ends_of c = c.lower to c.upper

-- what c tells for a ratio: the ends that the table has for it. k of that ratio lies between them, both ends, worked at 1,000,000 and at m times that.
pub record LookedUp (ratio : ℕ) (c : Coefficient) : Type 0 where
  pub accepted : (c.refusal ≡ 0) × (c.line ≡ 0) × (c.length ≡ 0)
  pub told : ends_of c ≡ ends ratio
  pub own : Inside 1 (k 1 (ratio to ratio)) (ends_of c)
  pub finer : (m : ℕ) → 0 < m → Inside m (k m (ratio * m to ratio * m)) (ends_of c)

-- i is the entry at or below a ratio, or the one at or above it; the one before that is below the ratio, if there is one
pub record AtOrBelow (ratio i : ℕ) : Type 0 where
  pub listed : i < entry_count
  pub below : ratio_of i ≤ ratio
  pub next : ratio < ratio_of (suc i)

pub record AtOrAbove (ratio i : ℕ) : Type 0 where
  pub listed : i < entry_count
  pub above : ratio ≤ ratio_of i
  pub before : ratio_of i < ratio + step
