-- Names for the parts of a sheet's working, and the scales that the code works at.
use Rattle.std.specs.Prelude.{ℕ, ◌≤◌, ◌<◌}
use Rattle.pair.specs.Pairs.{times, over, smaller}
use Rattle.pair.specs.declared.Pair.{Pair}
use Rattle.section.specs.declared.Common.{Common}
use Rattle.section.specs.declared.Stiffener.{Stiffener}
use Rattle.section.specs.declared.Member.{Member}
use Rattle.section.specs.declared.RefinedFlange.{RefinedFlange}
use Rattle.pair.specs.declared.Both.{Both}
use Rattle.section.specs.declared.EffectiveParts.{EffectiveParts}
use Rattle.section.specs.declared.Sheet.{Sheet}
use Rattle.section.specs.Working.{scale_of, constant, whole, mm, core, strength, g, inertia_of, stress_of, kf, flexibility_of, ud⁴, χ_of, rounds, full, effective, hp_of, cp_of, bp₁_of, bp₂_of, member_of}

-- the scale 1,000,000, or up to ten times it
pub record Fine (n : ℕ) : Type 0 where
  pub some : 0 < n
  pub most : n ≤ 10

-- × and ÷ at one scale
pub record Operations : Type 0 where
  pub ◌⊗◌ : Pair → Pair → Pair
  pub ◌⊘◌ : Pair → Pair → Pair

abbrev pub operations : ℕ → Operations
operations n = record { ◌⊗◌ = times (scale_of n); ◌⊘◌ = over (scale_of n) }

-- a flange's part of a round, and a round, with the smaller of each χ and the one before it (W-205)
abbrev pub lowered : RefinedFlange → Pair → RefinedFlange
lowered p χ₀ = record { stiffener = p.stiffener; chi = smaller p.chi χ₀ }

abbrev pub lowered_round : Both RefinedFlange → Pair → Pair → Both RefinedFlange
lowered_round r χ₁ χ₂ = record { one = lowered r.one χ₁; two = lowered r.two χ₂ }

module _ (n : ℕ) where
  -- (w÷t)×(w÷t)×fyb÷189541.6 of a plane of width w: u² times its buckling coefficient
  abbrev pub yield_over_euler : ℕ → ℕ → Pair → Pair
  yield_over_euler t fyb w =
      let r = over (scale_of n) w (mm n t) in over (scale_of n) (times (scale_of n) (times (scale_of n) r r) (whole n fyb)) (constant n 1895416 10)

  -- the fourth power of one flange's ud, from its kf, its own g, the other's g and its stiffener
  abbrev pub fourth_of : Common → Pair → Pair → Pair → Stiffener → Pair
  fourth_of y kf g o s = ud⁴ n (flexibility_of n y.hp kf g o) (inertia_of n (core n y) s) (stress_of n (core n y) (strength n y) s)

  -- the same of both flanges; each has its own kf
  abbrev pub fourths_of : Member → Both Stiffener → Both Pair
  fourths_of x y =
      let g₁ = g n x.flanges.one.bp y.one in
      let g₂ = g n x.flanges.two.bp y.two in
      record { one = fourth_of x.common (kf n y.one y.two) g₁ g₂ y.one; two = fourth_of x.common (kf n y.two y.one) g₂ g₁ y.two }

  -- a round with the χ that its stiffeners give, from both flanges' widths and these: as the code works it, before the smaller is taken
  unfoldable pub factors : Common → Pair → Pair → Stiffener → Stiffener → Both RefinedFlange
  factors y bp₁ bp₂ s₁ s₂ =
      let g₁ = g n bp₁ s₁ in
      let g₂ = g n bp₂ s₂ in
      record {
        one = record { stiffener = s₁; chi = χ_of n y (kf n s₁ s₂) g₁ g₂ s₁ };
        two = record { stiffener = s₂; chi = χ_of n y (kf n s₂ s₁) g₂ g₁ s₂ };
      }

  -- the same of a member
  abbrev pub factors_of : Member → Both Stiffener → Both RefinedFlange
  factors_of x y = factors x.common x.flanges.one.bp x.flanges.two.bp y.one y.two

  -- the same from the stiffeners that a round has
  abbrev pub own_factors : Member → Both RefinedFlange → Both RefinedFlange
  own_factors x r = factors x.common x.flanges.one.bp x.flanges.two.bp r.one.stiffener r.two.stiffener

  abbrev pub effective_of : Sheet → EffectiveParts
  effective_of q = effective n (member_of n q) q.rounds

  abbrev pub full_of : Sheet → EffectiveParts
  full_of q = full n (hp_of n q) (cp_of n q) (bp₁_of n q) (bp₂_of n q)

  -- the round that the i-th refining gives, and the first working for 0
  abbrev pub round_of : Sheet → ℕ → Both RefinedFlange
  round_of q i = rounds n (member_of n q) i
