-- In which boxes the effective parts of a section lie, and those of a full one.
use Prim.Native.Nat.{ℕ, ◌*◌}
use lib.Dec.{lit≤}
use Rattle.pair.specs.Pairs.{◌to◌, times}
use Rattle.pair.specs.Enclosure.{Inside}
use Rattle.pair.specs.declared.Pair.{Pair}
use Rattle.pair.proofs.Laws.{times_box}
use Rattle.section.specs.declared.EffectiveFlange.{EffectiveFlange}
use Rattle.section.specs.declared.EffectiveParts.{EffectiveParts}
use Rattle.section.specs.declared.Stiffener.{Stiffener}
use Rattle.section.specs.Working.{scale_of}
use Rattle.section.specs.Parts.{Fine}
use Rattle.section.proofs.Ends.{scale}

-- a stiffener of any sheet
pub record StiffenerRange (n : ℕ) (s : Stiffener) : Type 0 where
  pub be2 : Inside n s.be2 (3360000 to 100000000)
  pub c : Inside n s.c (600000 to 120000000)
  pub a : Inside n s.a (3960000 to 220000000)

-- what counts of a flange
pub record EffectiveFlangeBox (n : ℕ) (x : EffectiveFlange) : Type 0 where
  pub be1 : Inside n x.be1 (3360000 to 100000000)
  pub stiffener : StiffenerRange n x.stiffener
  pub chi : Inside n x.chi (0 to 1000000)

-- a section, d being h − tnom in 0.01 mm
pub record EffectiveBox (n d : ℕ) (x : EffectiveParts) : Type 0 where
  pub one : EffectiveFlangeBox n x.flanges.one
  pub two : EffectiveFlangeBox n x.flanges.two
  pub p : Inside n x.p (0 to 5000 * d)
  pub m : Inside n x.m (0 to 5000 * d)

-- c_eff × c_eff
pub lip_square_box : {n : ℕ} {c : Pair} → Fine n → Inside n c (600000 to 120000000) → Inside n (times (scale_of n) c c) (0 to 14400000000)
lip_square_box f i = times_box 0 14400000000 (scale f) i i (lit≤ tt) (lit≤ tt)
