-- Sheet numbers and written constants are exact at every scale. (docs/WORKING.md, 3: both ends are equal.)
-- Both ends of `constant a b`, and a limit `units a b`, are a × S / b rounded down: the value a ÷ b itself where b divides a × S. It does, whatever a is,
-- for every denominator of specs/Working.antt; a field for each, with the values that have it.
use Rattle.std.specs.Prelude.{ℕ, ◌*◌, ◌≡◌}
use Rattle.section.specs.Working.{scale_of, constant, units}

-- a ÷ b in units of 1/S
pub record Exact (n a b : ℕ) : Type 0 where
  pub low : (constant n a b).lo * b ≡ a * scale_of n
  pub high : (constant n a b).hi * b ≡ a * scale_of n
  pub limit : units n a b * b ≡ a * scale_of n

pub record ConstantsExact (n : ℕ) : Type 0 where
  -- fyb; 1, 2, 4, 12, 210, 1000000
  pub wholes : (a : ℕ) → Exact n a 1
  -- 0.5
  pub halves : (a : ℕ) → Exact n a 2
  -- 189541.6
  pub tenths : (a : ℕ) → Exact n a 10
  -- every length of the sheet; 0.22, 0.35, 0.83, 0.91, 0.65, 1.38
  pub hundredths : (a : ℕ) → Exact n a 100
  -- 0.673, 0.748, 0.188
  pub thousandths : (a : ℕ) → Exact n a 1000
  -- 0.47226
  pub hundred_thousandths : (a : ℕ) → Exact n a 100000
