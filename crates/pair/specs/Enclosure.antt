-- What the enclosure promises speak of: values between the ends of a pair, and a finer pair inside a coarser one.
use Rattle.std.specs.Prelude.{◌≡◌, ℕ, ◌*◌, ◌^◌, ◌≤◌, ◌<◌, ℤ, pos, ◌*ℤ◌}
use Rattle.pair.specs.Integers.{◌≼ℤ◌}
use Rattle.pair.specs.SignedPairs.{SignedPair, reach}
use Rattle.pair.specs.declared.Pair.{Pair}

-- the scale s' is m times the scale s: document 01's finer working, "S replaced by m × S, m any whole number from 1"
pub record Finer (m s s' : ℕ) : Type 0 where
  pub many : 0 < m
  pub some : 0 < s
  pub scale : s' ≡ m * s

-- a finer pair, in units of 1/(m × s), lies inside a coarser one, in units of 1/s, and its ends are in order
pub record Inside (m : ℕ) (fine coarse : Pair) : Type 0 where
  pub low : coarse.lo * m ≤ fine.lo
  pub mid : fine.lo ≤ fine.hi
  pub high : fine.hi ≤ coarse.hi * m

pub record SignedInside (m : ℕ) (fine coarse : SignedPair) : Type 0 where
  pub low : coarse.lo *ℤ pos m ≼ℤ fine.lo
  pub mid : fine.lo ≼ℤ fine.hi
  pub high : fine.hi ≼ℤ coarse.hi *ℤ pos m

-- the fraction x ÷ (m × s) lies between the ends of p, a pair in units of 1/s
pub record Between (m x : ℕ) (p : Pair) : Type 0 where
  pub low : p.lo * m ≤ x
  pub high : x ≤ p.hi * m

pub record SignedBetween (m : ℕ) (x : ℤ) (a : SignedPair) : Type 0 where
  pub low : a.lo *ℤ pos m ≼ℤ x
  pub high : x ≼ℤ a.hi *ℤ pos m

-- the e-th root of the fraction x ÷ (m × s ^ e) lies between the ends of p, a pair in units of 1/s: their powers enclose it
pub record RootBetween (e m x : ℕ) (p : Pair) : Type 0 where
  pub low : p.lo ^ e * m ≤ x
  pub high : x ≤ p.hi ^ e * m

pub record Ordered (p : Pair) : Type 0 where
  pub ends : p.lo ≤ p.hi

pub record SignedOrdered (a : SignedPair) : Type 0 where
  pub ends : a.lo ≼ℤ a.hi

-- no end of p is above that of q, in units of one scale
pub record NotAbove (p q : Pair) : Type 0 where
  pub low : p.lo ≤ q.lo
  pub high : p.hi ≤ q.hi

-- a divisor's lower end is above zero
pub record Positive (p : Pair) : Type 0 where
  pub low : 0 < p.lo

-- bounds in units of 1/s
pub record AtLeast (b : ℕ) (p : Pair) : Type 0 where
  pub low : b ≤ p.lo

pub record AtMost (b : ℕ) (p : Pair) : Type 0 where
  pub high : p.hi ≤ b

-- no end lies further than b from zero
pub record Reaches (b : ℕ) (a : SignedPair) : Type 0 where
  pub size : reach a ≤ b
