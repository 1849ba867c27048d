-- The parts of a finer working inside those of a coarser one: each pair of a part lies inside the coarser pair.
use Prim.Native.Nat.{ℕ, ◌*◌}
use Rattle.pair.specs.Enclosure.{Inside}
use Rattle.section.specs.declared.Flange.{Flange}
use Rattle.section.specs.declared.Common.{Common}
use Rattle.section.specs.declared.Member.{Member}
use Rattle.section.specs.declared.Stiffener.{Stiffener}
use Rattle.section.specs.declared.RefinedFlange.{RefinedFlange}
use Rattle.pair.specs.declared.Both.{Both}
use Rattle.section.specs.declared.EffectiveFlange.{EffectiveFlange}
use Rattle.section.specs.declared.EffectiveParts.{EffectiveParts}
use Rattle.section.specs.Working.{core, strength}

pub record FlangeInside (m : ℕ) (fine coarse : Flange) : Type 0 where
  pub bp : Inside m fine.bp coarse.bp
  pub plane : Inside m fine.plane coarse.plane
  pub lip : Inside m fine.lip coarse.lip

pub record StiffenerInside (m : ℕ) (fine coarse : Stiffener) : Type 0 where
  pub be2 : Inside m fine.be2 coarse.be2
  pub c : Inside m fine.c coarse.c
  pub a : Inside m fine.a coarse.a

pub record RefinedInside (m : ℕ) (fine coarse : RefinedFlange) : Type 0 where
  pub stiffener : StiffenerInside m fine.stiffener coarse.stiffener
  pub chi : Inside m fine.chi coarse.chi

pub record RoundInside (m : ℕ) (fine coarse : Both RefinedFlange) : Type 0 where
  pub one : RefinedInside m fine.one coarse.one
  pub two : RefinedInside m fine.two coarse.two

pub record EffectiveFlangeInside (m : ℕ) (fine coarse : EffectiveFlange) : Type 0 where
  pub be1 : Inside m fine.be1 coarse.be1
  pub stiffener : StiffenerInside m fine.stiffener coarse.stiffener
  pub chi : Inside m fine.chi coarse.chi

pub record EffectivePartsInside (mult : ℕ) (fine coarse : EffectiveParts) : Type 0 where
  pub one : EffectiveFlangeInside mult fine.flanges.one coarse.flanges.one
  pub two : EffectiveFlangeInside mult fine.flanges.two coarse.flanges.two
  pub p : Inside mult fine.p coarse.p
  pub m : Inside mult fine.m coarse.m

-- what both flanges have in common and a member, at m × n and at n
pub record CommonInside (n m : ℕ) (fine coarse : Common) : Type 0 where
  pub t : Inside m (core (m * n) fine) (core n coarse)
  pub fyb : Inside m (strength (m * n) fine) (strength n coarse)
  pub hp : Inside m fine.hp coarse.hp
  pub cp : Inside m fine.cp coarse.cp

pub record MemberInside (n m : ℕ) (fine coarse : Member) : Type 0 where
  pub common : CommonInside n m fine.common coarse.common
  pub one : FlangeInside m fine.flanges.one coarse.flanges.one
  pub two : FlangeInside m fine.flanges.two coarse.flanges.two
