-- Subtraction of natural numbers is cut at zero; in the working of a sheet and in the questions on it, it never is.
-- `Uncut` has a field for each subtraction of specs/Working.antt, at one scale; `QuestionsUncut` has one for each of specs/Sheets.antt;
-- specs/Figures.antt has none.
-- (docs/WORKING.md, 4 to 12 and 15. hp − c2÷2 and the shift are signed.
-- The d − 1 of `ceil_div` is not cut, since no divisor is zero: specs/Divisors.antt.)
use Rattle.std.specs.Prelude.{ℕ, ◌*◌, ◌≤◌, ◌<◌}
use Rattle.pair.specs.Pairs.{◌to◌}
use Rattle.pair.specs.declared.Pair.{Pair}
use Rattle.section.specs.declared.Stiffener.{Stiffener}
use Rattle.section.specs.declared.Sheet.{Sheet}
use Rattle.section.specs.Working.{scale_of, constant, whole, units, mm, hp_of, bp₁_of, bp₂_of}
use Rattle.section.specs.Parts.{effective_of, full_of, round_of, operations}

-- no end of p − q is cut at zero
pub record NotCut (p q : Pair) : Type 0 where
  pub low : q.hi ≤ p.lo
  pub high : q.lo ≤ p.hi

module _ (n : ℕ) where
  open operations n use {◌⊗◌, ◌⊘◌}

  infixl 7 ◌⊗◌
  infixl 7 ◌⊘◌
  -- be2×be2÷(2×a)
  abbrev pub taken_off : Stiffener → Pair
  taken_off s = s.be2 ⊗ s.be2 ⊘ (whole n 2 ⊗ s.a)

  pub record Uncut (q : Sheet) : Type 0 where
    -- hp = h − tnom, bp1 = b1 − tnom, bp2 = b2 − tnom, cp = c − tnom/2
    pub hp : NotCut (mm n q.h) (mm n q.tnom.0)
    pub bp₁ : NotCut (mm n q.b1) (mm n q.tnom.0)
    pub bp₂ : NotCut (mm n q.b2) (mm n q.tnom.0)
    pub cp : NotCut (mm n q.c) (mm n q.tnom.0 ⊘ whole n 2)
    -- ρ, at each end of u: u − 0.22 past 0.673, and u − 0.188 past 0.748
    pub ρ_plane : (u : ℕ) → units n 673 1000 < u → units n 22 100 ≤ u
    pub ρ_lip : (u : ℕ) → units n 748 1000 < u → units n 188 1000 ≤ u
    -- k, at each end of cp÷bp: q − 0.35 past 0.35
    pub k : (x : ℕ) → units n 35 100 < x → NotCut (x to x) (constant n 35 100)
    -- g = bp − be2×be2÷(2×a) of each flange, in every round
    pub g₁ : (i : ℕ) → NotCut (bp₁_of n q) (taken_off (round_of n q i).one.stiffener)
    pub g₂ : (i : ℕ) → NotCut (bp₂_of n q) (taken_off (round_of n q i).two.stiffener)
    -- χ, at each end of ud below 1.38: 1.47 − 0.723 × ud, in thousandths
    pub χ : (u : ℕ) → u < units n 138 100 → 723 * u ≤ 1470 * scale_of n
    -- hp − he÷2, of what counts and of the full section
    pub effective_web : NotCut (hp_of n q) ((effective_of n q).m ⊘ whole n 2)
    pub full_web : NotCut (hp_of n q) ((full_of n q).m ⊘ whole n 2)

-- the questions, where every value is in range
pub record QuestionsUncut (q : Sheet) : Type 0 where
  -- 10r ≤ bp and 5cp ≤ 3bp, flange 1 then 2: bp = b − tnom
  pub bp₁ : q.tnom.0 ≤ q.b1
  pub bp₂ : q.tnom.0 ≤ q.b2
  -- 5cp ≤ 3bp: cp twice, 2c − tnom
  pub cp : q.tnom.0 ≤ 2 * q.c
