-- What the working of a sheet and its printed figures divide by is never zero. A field for each divisor of specs/Working.antt and specs/Figures.antt.
-- (docs/WORKING.md, 3 to 13.)
-- A numeral has no field: the denominators of written constants (specs/Constants.antt), and in χ the 1000 of 1.47 − 0.723 × ud and the 138 of 0.66/1.38.
-- Roots divide by nothing.
use Rattle.std.specs.Prelude.{ℕ, ◌*◌, ◌≤◌, ◌<◌}
use Rattle.pair.specs.Pairs.{times, over}
use Rattle.pair.specs.declared.Pair.{Pair}
use Rattle.section.specs.declared.Stiffener.{Stiffener}
use Rattle.section.specs.declared.Sheet.{Sheet}
use Rattle.section.specs.Working.{scale_of, constant, whole, units, mm, k, inertia_of, kept_length, cp_of, bp₁_of, bp₂_of}
use Rattle.section.specs.Parts.{effective_of, full_of, round_of}

-- both ends: the upper divides for the lower end of a quotient, the lower for the upper end
pub record AboveZero (p : Pair) : Type 0 where
  pub low : 0 < p.lo
  pub high : 0 < p.hi

module _ (n : ℕ) where
  -- what is divided by of one flange's stiffener, in one round
  pub record StiffenerAboveZero (t : Pair) (s : Stiffener) : Type 0 where
    -- g = bp − be2×be2÷(2×a)
    pub twice_a : AboveZero (times (scale_of n) (whole n 2) s.a)
    -- J = … + c_eff×c_eff×c_eff×be2÷(4×a)
    pub four_a : AboveZero (times (scale_of n) (whole n 4) s.a)
    -- kf of the flange: a of the other ÷ its own a
    pub a : AboveZero s.a
    -- ud: D÷J×T×T×0.91÷1000000
    pub inertia : AboveZero (inertia_of n t s)

  pub record DivisorsAboveZero (q : Sheet) : Type 0 where
    -- the scale: each product is divided by it, and each printed figure
    pub scale : 0 < scale_of n
    -- tnom/2, and every ÷2 of z and of the full section
    pub two : AboveZero (whole n 2)
    -- w÷t of u², and T = fyb×a÷t÷210
    pub t : AboveZero (mm n q.t.0)
    -- u² = (w÷t)×(w÷t)×fyb÷189541.6÷k
    pub modulus : AboveZero (constant n 1895416 10)
    -- web and flanges: k = 4, and ρ = (u − 0.22)/u² past 0.673, at each end of u
    pub k_plane : AboveZero (whole n 4)
    pub ρ_plane : (u : ℕ) → units n 673 1000 < u → 0 < u * u
    -- lip: q = cp÷bp of its own flange, its k, and ρ = (u − 0.188)/u² past 0.748
    pub bp₁ : AboveZero (bp₁_of n q)
    pub bp₂ : AboveZero (bp₂_of n q)
    pub k_lip₁ : AboveZero (k n (over (scale_of n) (cp_of n q) (bp₁_of n q)))
    pub k_lip₂ : AboveZero (k n (over (scale_of n) (cp_of n q) (bp₂_of n q)))
    pub ρ_lip : (u : ℕ) → units n 748 1000 < u → 0 < u * u
    -- g, J, kf and ud, in every round
    pub stiffener₁ : (i : ℕ) → StiffenerAboveZero (mm n q.t.0) (round_of n q i).one.stiffener
    pub stiffener₂ : (i : ℕ) → StiffenerAboveZero (mm n q.t.0) (round_of n q i).two.stiffener
    -- J = be2×t×t÷12 + c_eff×c_eff×c_eff÷12 + …
    pub twelve : AboveZero (whole n 12)
    -- T = fyb×a÷t÷210
    pub two_hundred_and_ten : AboveZero (whole n 210)
    -- ud: D÷J×T×T×0.91÷1000000
    pub million : AboveZero (whole n 1000000)
    -- χ, at each end of ud from 1.38: 0.66/ud, in hundredths
    pub χ : (u : ℕ) → units n 138 100 ≤ u → 0 < 100 * u
    -- z = (…)÷L, of what counts and of the full section
    pub effective_length : AboveZero (kept_length n (effective_of n q))
    pub full_length : AboveZero (kept_length n (full_of n q))
    -- axial = lower end of the area × fyb ÷ partial factor
    pub axial : 0 < q.gm0 * scale_of n
