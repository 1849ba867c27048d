-- This need not be believed: what the operations of the section's length, moments, axes and area ask of their operands, beside specs/Room.
-- `SheetRoom`, at the end, is what the working of a whole sheet asks, and `sheet_room` (proofs/SheetRooms) gives it for every sheet that meets
-- questions 2 to 10 and every n from 1 to 10.
use Rattle.std.specs.Prelude.{ℕ, ◌≡◌, true}
use Rattle.pair.specs.Pairs.{root}
use Rattle.pair.specs.SignedPairs.{SignedPair, signed, difference}
use Rattle.pair.specs.Fits.{plus_fits, minus_fits, times_fits, times_ratio_fits, over_ratio_fits, root_fits, signed_plus_fits, signed_times_fits, signed_over_fits}
use Rattle.pair.specs.declared.Pair.{Pair}
use Rattle.section.specs.declared.Common.{Common}
use Rattle.section.specs.declared.Member.{Member}
use Rattle.section.specs.declared.EffectiveParts.{EffectiveParts}
use Rattle.section.specs.declared.Sheet.{Sheet}
use Rattle.section.specs.Working.{◌⊕◌, ◌⊖◌, ◌⊞◌, scale_of, constant, core, strength, u², ρ_plane, kept_length}
use Rattle.section.specs.Working.{lip_moment, flange_moment, far_web_moment, near_web_moment, near_lip_moment, moment, z}
use Rattle.section.specs.Working.{hp_of, cp_of, bp₁_of, bp₂_of, member_of}
use Rattle.section.specs.Parts.{effective_of, full_of, operations}
use Rattle.section.specs.Room.{MidRoom, LipRoom, SlenderRoom, Slim, HalfRoom, FlangeRoom, Steady}

module _ (n : ℕ) where
  open operations n use {◌⊗◌, ◌⊘◌}

  infixl 7 ◌⊗◌
  infixl 7 ◌⊘◌
  abbrev c : ℕ → ℕ → Pair
  c a b = constant n a b

  -- be1 of both flanges and the web's parts
  pub record FixedRoom (x : EffectiveParts) : Type 0 where
    pub flanges : plus_fits x.flanges.one.be1 x.flanges.two.be1 ≡ true
    pub near : plus_fits (x.flanges.one.be1 ⊕ x.flanges.two.be1) x.p ≡ true
    pub far : plus_fits (x.flanges.one.be1 ⊕ x.flanges.two.be1 ⊕ x.p) x.m ≡ true

  pub record LengthRoom (x : EffectiveParts) : Type 0 where
    pub fixed : FixedRoom x
    pub one : times_fits (scale_of n) x.flanges.one.stiffener.a x.flanges.one.chi ≡ true
    pub two : times_fits (scale_of n) x.flanges.two.stiffener.a x.flanges.two.chi ≡ true
    pub first : plus_fits (x.flanges.one.be1 ⊕ x.flanges.two.be1 ⊕ x.p ⊕ x.m) (x.flanges.one.stiffener.a ⊗ x.flanges.one.chi) ≡ true
    pub second : plus_fits (x.flanges.one.be1 ⊕ x.flanges.two.be1 ⊕ x.p ⊕ x.m ⊕ x.flanges.one.stiffener.a ⊗ x.flanges.one.chi)
        (x.flanges.two.stiffener.a ⊗ x.flanges.two.chi) ≡ true

  pub record LipMomentRoom (hp lip χ₂ : Pair) : Type 0 where
    pub force : times_fits (scale_of n) lip χ₂ ≡ true
    pub half : over_ratio_fits (scale_of n) lip 2 1 ≡ true
    pub product : signed_times_fits (scale_of n) (difference hp (lip ⊘ c 2 1)) (signed (lip ⊗ χ₂)) ≡ true

  pub record FlangeMomentRoom (hp be1₂ be2₂ χ₂ : Pair) : Type 0 where
    pub part : times_fits (scale_of n) be2₂ χ₂ ≡ true
    pub sum : plus_fits (be2₂ ⊗ χ₂) be1₂ ≡ true
    pub depth : times_fits (scale_of n) hp (be2₂ ⊗ χ₂ ⊕ be1₂) ≡ true

  pub record FarWebRoom (hp m : Pair) : Type 0 where
    pub half : over_ratio_fits (scale_of n) m 2 1 ≡ true
    pub less : minus_fits hp (m ⊘ c 2 1) ≡ true
    pub product : times_fits (scale_of n) m (hp ⊖ m ⊘ c 2 1) ≡ true

  pub record NearWebRoom (p : Pair) : Type 0 where
    pub square : times_fits (scale_of n) p p ≡ true
    pub half : over_ratio_fits (scale_of n) (p ⊗ p) 2 1 ≡ true

  pub record NearLipRoom (lip χ₁ : Pair) : Type 0 where
    pub square : times_fits (scale_of n) lip lip ≡ true
    pub factor : times_fits (scale_of n) (lip ⊗ lip) χ₁ ≡ true
    pub half : over_ratio_fits (scale_of n) (lip ⊗ lip ⊗ χ₁) 2 1 ≡ true

  -- the moment of flange 2 and its lip
  abbrev pub outer : Pair → EffectiveParts → SignedPair
  outer hp x =
      lip_moment n hp x.flanges.two.stiffener.c x.flanges.two.chi
      ⊞ flange_moment n hp x.flanges.two.be1 x.flanges.two.stiffener.be2 x.flanges.two.chi

  pub record OuterRoom (hp : Pair) (x : EffectiveParts) : Type 0 where
    pub lip : LipMomentRoom hp x.flanges.two.stiffener.c x.flanges.two.chi
    pub flange : FlangeMomentRoom hp x.flanges.two.be1 x.flanges.two.stiffener.be2 x.flanges.two.chi
    pub sum :
        signed_plus_fits (lip_moment n hp x.flanges.two.stiffener.c x.flanges.two.chi)
        (signed (flange_moment n hp x.flanges.two.be1 x.flanges.two.stiffener.be2 x.flanges.two.chi)) ≡ true

  pub record WebRoom (hp p m : Pair) (a : SignedPair) : Type 0 where
    pub far : FarWebRoom hp m
    pub near : NearWebRoom p
    pub first : signed_plus_fits a (signed (far_web_moment n hp m)) ≡ true
    pub second : signed_plus_fits (a ⊞ far_web_moment n hp m) (signed (near_web_moment n p)) ≡ true

  pub record MomentRoom (hp : Pair) (x : EffectiveParts) : Type 0 where
    pub outer_room : OuterRoom hp x
    pub web : WebRoom hp x.p x.m (outer hp x)
    pub near : NearLipRoom x.flanges.one.stiffener.c x.flanges.one.chi
    pub sum :
        signed_plus_fits (outer hp x ⊞ far_web_moment n hp x.m ⊞ near_web_moment n x.p)
        (signed (near_lip_moment n x.flanges.one.stiffener.c x.flanges.one.chi)) ≡ true

  pub record AxisRoom (hp : Pair) (x : EffectiveParts) : Type 0 where
    pub moment_room : MomentRoom hp x
    pub length : LengthRoom x
    pub quotient : signed_over_fits (scale_of n) (moment n hp x) (kept_length n x) ≡ true

  -- half of a flange, and its lip
  pub record FullFlangeRoom (cp bp : Pair) : Type 0 where
    pub half : over_ratio_fits (scale_of n) bp 2 1 ≡ true
    pub sum : plus_fits (bp ⊘ c 2 1) cp ≡ true

  pub record FullRoom (hp cp bp₁ bp₂ : Pair) : Type 0 where
    pub web : over_ratio_fits (scale_of n) hp 2 1 ≡ true
    pub one : FullFlangeRoom cp bp₁
    pub two : FullFlangeRoom cp bp₂

  pub record WebKeptRoom (y : Common) : Type 0 where
    pub slender : SlenderRoom n y.steel.t.0 y.steel.fyb (c 4 1) y.hp
    pub radicand : root_fits (scale_of n) (u² n (core n y) (strength n y) (c 4 1) y.hp) ≡ true
    pub slim : Slim n (root (scale_of n) (u² n (core n y) (strength n y) (c 4 1) y.hp))
    pub half : HalfRoom n (ρ_plane n (root (scale_of n) (u² n (core n y) (strength n y) (c 4 1) y.hp))) y.hp

  pub record EffectiveRoom (x : Member) : Type 0 where
    pub steady : Steady n x
    pub web : WebKeptRoom x.common

  -- every operation of a sheet's working has room
  pub record SheetRoom (q : Sheet) : Type 0 where
    pub hp : MidRoom n q.h q.tnom.0
    pub cp : LipRoom n q.c q.tnom.0
    pub bp₁ : MidRoom n q.b1 q.tnom.0
    pub bp₂ : MidRoom n q.b2 q.tnom.0
    pub flange₁ : FlangeRoom n q.t.0 q.fyb (cp_of n q) (bp₁_of n q)
    pub flange₂ : FlangeRoom n q.t.0 q.fyb (cp_of n q) (bp₂_of n q)
    pub effective : EffectiveRoom (member_of n q)
    pub axis : AxisRoom (hp_of n q) (effective_of n q)
    pub full : FullRoom (hp_of n q) (cp_of n q) (bp₁_of n q) (bp₂_of n q)
    pub gross : AxisRoom (hp_of n q) (full_of n q)
    pub area : times_ratio_fits (scale_of n) (kept_length n (effective_of n q)) q.t.0 100 ≡ true
    pub shift : signed_plus_fits (z n (hp_of n q) (effective_of n q)) (z n (hp_of n q) (full_of n q)) ≡ true
