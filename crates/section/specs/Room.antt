-- This need not be believed. It is what the operations of the working ask of their operands (specs/Fits of crate pair), a field for each,
-- gathered for each function: here those of the rounds, in specs/SectionRoom those of the whole section. It stands in specs because contracts
-- cite it, those of the functions beneath `work`.
use Rattle.std.specs.Prelude.{ℕ, ◌+◌, ◌*◌, ◌≤◌, ◌<◌, ◌≡◌, true}
use Rattle.pair.specs.Pairs.{root, cube_root}
use Rattle.pair.specs.Fits.{ratio_fits, plus_fits, minus_fits, times_fits, over_fits, times_ratio_fits, over_ratio_fits, root_fits, cube_root_fits}
use Rattle.pair.specs.Enclosure.{NotAbove}
use Rattle.pair.specs.declared.Pair.{Pair}
use Rattle.section.specs.declared.Flange.{Flange}
use Rattle.section.specs.declared.Common.{Common}
use Rattle.section.specs.declared.Member.{Member}
use Rattle.section.specs.declared.Stiffener.{Stiffener}
use Rattle.pair.specs.declared.Both.{Both}
use Rattle.section.specs.declared.RefinedFlange.{RefinedFlange}
use Rattle.section.specs.Working.{◌⊕◌, ◌⊖◌, scale_of, constant, mm, core, strength, ρ_plane, ρ_lip, k, stiffener_of, g, inertia_of, stress_of, kf, flexibility_of, ud, round}
use Rattle.section.specs.Parts.{operations, own_factors}

-- what is divided by the square of a slenderness u: a is at most u at the scale s, which is at most twice u
pub record Squared (a s u : ℕ) : Type 0 where
  pub some : 0 < u
  pub most : u ≤ 400000000
  pub scale : s ≤ 2 * u
  pub part : a ≤ u * s

-- x by the square of u is about q, and r is left
pub record SquareDivided (x u q r : ℕ) : Type 0 where
  pub sum : q * (u * u) + r ≡ x
  pub small : r < 3 * (u * u)
  pub most : q ≤ 640000000000000000
  pub square : u * u ≤ 160000000000000000

module _ (n : ℕ) where
  open operations n use {◌⊗◌, ◌⊘◌}

  infixl 7 ◌⊗◌
  infixl 7 ◌⊘◌
  abbrev c : ℕ → ℕ → Pair
  c a b = constant n a b

  pub record MidRoom (w tnom : ℕ) : Type 0 where
    pub outer : ratio_fits (scale_of n) w 100 ≡ true
    pub nominal : ratio_fits (scale_of n) tnom 100 ≡ true
    pub less : minus_fits (mm n w) (mm n tnom) ≡ true

  pub record LipRoom (w tnom : ℕ) : Type 0 where
    pub outer : ratio_fits (scale_of n) w 100 ≡ true
    pub nominal : ratio_fits (scale_of n) tnom 100 ≡ true
    pub half : over_ratio_fits (scale_of n) (mm n tnom) 2 1 ≡ true
    pub less : minus_fits (mm n w) (mm n tnom ⊘ c 2 1) ≡ true

  pub record SlenderRoom (t fyb : ℕ) (k w : Pair) : Type 0 where
    pub ratio : over_ratio_fits (scale_of n) w t 100 ≡ true
    pub square : times_fits (scale_of n) (w ⊘ mm n t) (w ⊘ mm n t) ≡ true
    pub yield : times_ratio_fits (scale_of n) (w ⊘ mm n t ⊗ (w ⊘ mm n t)) fyb 1 ≡ true
    pub modulus : over_ratio_fits (scale_of n) (w ⊘ mm n t ⊗ (w ⊘ mm n t) ⊗ c fyb 1) 1895416 10 ≡ true
    pub coefficient : over_fits (scale_of n) (w ⊘ mm n t ⊗ (w ⊘ mm n t) ⊗ c fyb 1 ⊘ c 1895416 10) k ≡ true

  -- a slenderness of at most 40
  pub record Slim (u : Pair) : Type 0 where
    pub order : u.lo ≤ u.hi
    pub most : u.hi ≤ 40000000 * n

  -- a lip of at most 0.6 of its flange
  pub record LipRatio (q : Pair) : Type 0 where
    pub order : q.lo ≤ q.hi
    pub most : q.hi ≤ 600000 * n

  pub record PastRoom (q : Pair) : Type 0 where
    pub limit : ratio_fits (scale_of n) 35 100 ≡ true
    pub less : minus_fits q (c 35 100) ≡ true
    pub square : times_fits (scale_of n) (q ⊖ c 35 100) (q ⊖ c 35 100) ≡ true
    pub cube : cube_root_fits (scale_of n) ((q ⊖ c 35 100) ⊗ (q ⊖ c 35 100)) ≡ true
    pub slope : times_ratio_fits (scale_of n) (cube_root (scale_of n) ((q ⊖ c 35 100) ⊗ (q ⊖ c 35 100))) 83 100 ≡ true
    pub half : ratio_fits (scale_of n) 1 2 ≡ true
    pub sum : plus_fits (c 1 2) (c 83 100 ⊗ cube_root (scale_of n) ((q ⊖ c 35 100) ⊗ (q ⊖ c 35 100))) ≡ true

  pub record HalfRoom (r w : Pair) : Type 0 where
    pub half : times_ratio_fits (scale_of n) r 1 2 ≡ true
    pub width : times_fits (scale_of n) (c 1 2 ⊗ r) w ≡ true

  pub record FlangeRoom (t fyb : ℕ) (cp bp : Pair) : Type 0 where
    pub plane : SlenderRoom t fyb (c 4 1) bp
    pub quotient : over_fits (scale_of n) cp bp ≡ true
    pub ratio : LipRatio (cp ⊘ bp)
    pub lip : SlenderRoom t fyb (k n (cp ⊘ bp)) cp

  pub record PlaneRoom (plane χ₀ bp : Pair) : Type 0 where
    pub factor : times_fits (scale_of n) plane χ₀ ≡ true
    pub radicand : root_fits (scale_of n) (plane ⊗ χ₀) ≡ true
    pub slim : Slim (root (scale_of n) (plane ⊗ χ₀))
    pub half : HalfRoom (ρ_plane n (root (scale_of n) (plane ⊗ χ₀))) bp

  pub record LipKeptRoom (lip χ₀ cp : Pair) : Type 0 where
    pub factor : times_fits (scale_of n) lip χ₀ ≡ true
    pub radicand : root_fits (scale_of n) (lip ⊗ χ₀) ≡ true
    pub slim : Slim (root (scale_of n) (lip ⊗ χ₀))
    pub part : times_fits (scale_of n) (ρ_lip n (root (scale_of n) (lip ⊗ χ₀))) cp ≡ true

  pub record StiffenerRoom (cp : Pair) (f : Flange) (χ₀ : Pair) : Type 0 where
    pub plane : PlaneRoom f.plane χ₀ f.bp
    pub lip : LipKeptRoom f.lip χ₀ cp
    pub sum : plus_fits (stiffener_of n cp f χ₀).be2 (stiffener_of n cp f χ₀).c ≡ true

  pub record CentreRoom (bp : Pair) (s : Stiffener) : Type 0 where
    pub square : times_fits (scale_of n) s.be2 s.be2 ≡ true
    pub twice : times_ratio_fits (scale_of n) s.a 2 1 ≡ true
    pub part : over_fits (scale_of n) (s.be2 ⊗ s.be2) (c 2 1 ⊗ s.a) ≡ true
    pub less : minus_fits bp (s.be2 ⊗ s.be2 ⊘ (c 2 1 ⊗ s.a)) ≡ true

  pub record PlateRoom (t : ℕ) (be2 : Pair) : Type 0 where
    pub once : times_ratio_fits (scale_of n) be2 t 100 ≡ true
    pub twice : times_ratio_fits (scale_of n) (be2 ⊗ mm n t) t 100 ≡ true
    pub twelfth : over_ratio_fits (scale_of n) (be2 ⊗ mm n t ⊗ mm n t) 12 1 ≡ true

  abbrev cube : Pair → Pair
  cube x = x ⊗ x ⊗ x

  pub record CubeRoom (x : Pair) : Type 0 where
    pub square : times_fits (scale_of n) x x ≡ true
    pub solid : times_fits (scale_of n) (x ⊗ x) x ≡ true

  pub record FarLipRoom (c³ be2 a : Pair) : Type 0 where
    pub times : times_fits (scale_of n) c³ be2 ≡ true
    pub four : times_ratio_fits (scale_of n) a 4 1 ≡ true
    pub part : over_fits (scale_of n) (c³ ⊗ be2) (c 4 1 ⊗ a) ≡ true

  pub record InertiaRoom (t : ℕ) (s : Stiffener) : Type 0 where
    pub plate : PlateRoom t s.be2
    pub solid : CubeRoom s.c
    pub twelfth : over_ratio_fits (scale_of n) (cube s.c) 12 1 ≡ true
    pub far : FarLipRoom (cube s.c) s.be2 s.a
    pub first : plus_fits (s.be2 ⊗ mm n t ⊗ mm n t ⊘ c 12 1) (cube s.c ⊘ c 12 1) ≡ true
    pub second : plus_fits (s.be2 ⊗ mm n t ⊗ mm n t ⊘ c 12 1 ⊕ cube s.c ⊘ c 12 1) (cube s.c ⊗ s.be2 ⊘ (c 4 1 ⊗ s.a)) ≡ true

  pub record StressRoom (t fyb : ℕ) (a : Pair) : Type 0 where
    pub core : t ≤ 600
    pub force : times_ratio_fits (scale_of n) a fyb 1 ≡ true
    pub thick : over_ratio_fits (scale_of n) (c fyb 1 ⊗ a) t 100 ≡ true
    pub modulus : over_ratio_fits (scale_of n) (c fyb 1 ⊗ a ⊘ mm n t) 210 1 ≡ true

  pub record CrossRoom (g o hp kf : Pair) : Type 0 where
    pub half : times_ratio_fits (scale_of n) g 1 2 ≡ true
    pub other : times_fits (scale_of n) (c 1 2 ⊗ g) o ≡ true
    pub depth : times_fits (scale_of n) (c 1 2 ⊗ g ⊗ o) hp ≡ true
    pub factor : times_fits (scale_of n) (c 1 2 ⊗ g ⊗ o ⊗ hp) kf ≡ true

  pub record BendRoom (hp kf g o : Pair) : Type 0 where
    pub square : times_fits (scale_of n) g g ≡ true
    pub depth : times_fits (scale_of n) (g ⊗ g) hp ≡ true
    pub solid : times_fits (scale_of n) (g ⊗ g) g ≡ true
    pub cross : CrossRoom g o hp kf
    pub first : plus_fits (g ⊗ g ⊗ hp) (g ⊗ g ⊗ g) ≡ true
    pub second : plus_fits (g ⊗ g ⊗ hp ⊕ g ⊗ g ⊗ g) (c 1 2 ⊗ g ⊗ o ⊗ hp ⊗ kf) ≡ true

  pub record LoadRoom (D J T : Pair) : Type 0 where
    pub quotient : over_fits (scale_of n) D J ≡ true
    pub once : times_fits (scale_of n) (D ⊘ J) T ≡ true
    pub twice : times_fits (scale_of n) (D ⊘ J ⊗ T) T ≡ true

  pub record UdRoom (D J T : Pair) : Type 0 where
    pub load : LoadRoom D J T
    pub poisson : times_ratio_fits (scale_of n) (D ⊘ J ⊗ T ⊗ T) 91 100 ≡ true
    pub million : over_ratio_fits (scale_of n) (D ⊘ J ⊗ T ⊗ T ⊗ c 91 100) 1000000 1 ≡ true
    pub inner : root_fits (scale_of n) (D ⊘ J ⊗ T ⊗ T ⊗ c 91 100 ⊘ c 1000000 1) ≡ true
    pub outer : root_fits (scale_of n) (root (scale_of n) (D ⊘ J ⊗ T ⊗ T ⊗ c 91 100 ⊘ c 1000000 1)) ≡ true

  pub record FactorRoom (y : Common) (kf g o : Pair) (s : Stiffener) : Type 0 where
    pub bend : BendRoom y.hp kf g o
    pub inertia : InertiaRoom y.steel.t.0 s
    pub stress : StressRoom y.steel.t.0 y.steel.fyb s.a
    pub slender : UdRoom (flexibility_of n y.hp kf g o) (inertia_of n (core n y) s) (stress_of n (core n y) (strength n y) s)
    pub slim : Slim (ud n (flexibility_of n y.hp kf g o) (inertia_of n (core n y) s) (stress_of n (core n y) (strength n y) s))

  pub record FactorsRoom (y : Common) (bp₁ bp₂ : Pair) (s₁ s₂ : Stiffener) : Type 0 where
    pub one_g : CentreRoom bp₁ s₁
    pub two_g : CentreRoom bp₂ s₂
    pub one_kf : over_fits (scale_of n) s₂.a s₁.a ≡ true
    pub two_kf : over_fits (scale_of n) s₁.a s₂.a ≡ true
    pub one : FactorRoom y (kf n s₁ s₂) (g n bp₁ s₁) (g n bp₂ s₂) s₁
    pub two : FactorRoom y (kf n s₂ s₁) (g n bp₂ s₂) (g n bp₁ s₁) s₂

  -- the same of a member
  abbrev pub BothFactorsRoom : Member → Both Stiffener → Type 0
  BothFactorsRoom x y = FactorsRoom x.common x.flanges.one.bp x.flanges.two.bp y.one y.two

  pub record RoundRoom (x : Member) (χ₁ χ₂ : Pair) : Type 0 where
    pub one : StiffenerRoom x.common.cp x.flanges.one χ₁
    pub two : StiffenerRoom x.common.cp x.flanges.two χ₂
    pub rest : FactorsRoom x.common x.flanges.one.bp x.flanges.two.bp (stiffener_of n x.common.cp x.flanges.one χ₁)
        (stiffener_of n x.common.cp x.flanges.two χ₂)

  -- a factor of at most 1
  pub record Factor (x : Pair) : Type 0 where
    pub order : x.lo ≤ x.hi
    pub most : x.hi ≤ scale_of n

  -- both factors of a round
  pub record FactorsMost (r : Both RefinedFlange) : Type 0 where
    pub one : Factor r.one.chi
    pub two : Factor r.two.chi

  -- every round from factors of at most 1 has room, and its factors are at most 1 again
  pub record Steady (x : Member) : Type 0 where
    pub room : (χ₁ χ₂ : Pair) → Factor χ₁ → Factor χ₂ → RoundRoom x χ₁ χ₂
    pub most : (χ₁ χ₂ : Pair) → Factor χ₁ → Factor χ₂ → FactorsMost (round n x χ₁ χ₂)

  -- no factor of a round is above the one that its own stiffener gives: it is the smaller of that and the one before
  pub record AtMostOwn (x : Member) (r : Both RefinedFlange) : Type 0 where
    pub one : NotAbove r.one.chi (own_factors n x r).one.chi
    pub two : NotAbove r.two.chi (own_factors n x r).two.chi
