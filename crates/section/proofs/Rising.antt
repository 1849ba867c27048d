-- Where no operand's end falls, no end of a sum, product or cube root falls, at one scale.
use Prim.Native.Nat.{ℕ, ◌≤◌, ◌<◌}
use native.Mathlib.Nat.{le_refl}
use native.Mathlib.Omega.{arith}
use Rattle.pair.specs.Pairs.{plus, minus, times, cube_root}
use Rattle.pair.specs.Enclosure.{Between, Ordered, AtLeast, AtMost}
use Rattle.pair.specs.declared.Pair.{Pair}
use Rattle.pair.proofs.Numbers.{pow_three}
use Rattle.pair.proofs.Laws.{ratio-Ordered, plus-Ordered, minus-Ordered, times-Ordered, cube_root-Ordered, plus-Between, minus-Between, times-Between, cube_root-Between, own_least, own_most, plus-AtLeast, plus-AtMost, minus-AtLeast, minus-AtMost, times-AtLeast, times-AtMost, cube_root-AtLeast, cube_root-AtMost}

-- both ends of P are at least those of p
pub record Rises (p P : Pair) : Type 0 where
  pub low : p.lo ≤ P.lo
  pub high : p.hi ≤ P.hi
  pub first : Ordered p
  pub second : Ordered P

pub same_rises : {p : Pair} → Ordered p → Rises p p
same_rises {p} o = record { low = le_refl _; high = le_refl _; first = o; second = o }

least : {p P : Pair} → Rises p P → AtLeast p.lo P
least r = record { low = r.low }

most : {p P : Pair} → Rises p P → AtMost P.hi p
most r = record { high = r.high }

low : {p : Pair} → Ordered p → Between 1 p.lo p
low o = omega arith

high : {p : Pair} → Ordered p → Between 1 p.hi p
high o = omega arith

pub plus-Rises : {p P q Q : Pair} → Rises p P → Rises q Q → Rises (plus p q) (plus P Q)
plus-Rises r t =
    record {
      low = omega (arith, (plus-Between (low r.first) (low t.first)).low, (plus-AtLeast (least r) (least t)).low);
      high = omega (arith, (plus-Between (high r.second) (high t.second)).high, (plus-AtMost (most r) (most t)).high);
      first = plus-Ordered r.first t.first;
      second = plus-Ordered r.second t.second;
    }

-- what is added lifts both ends
pub plus_more : {p q : Pair} → Ordered p → Ordered q → Rises p (plus p q)
plus_more {p} {q} o k =
    let none : AtLeast 0 q = omega arith in
    record {
      low = omega (arith, (plus-AtLeast (own_least p) none).low);
      high = omega (arith, (plus-Between (high o) (high k)).high);
      first = o;
      second = plus-Ordered o k;
    }

-- less the same
pub minus-Rises : {p P q : Pair} → Ordered q → Rises p P → Rises (minus p q) (minus P q)
minus-Rises {q = q} o r =
    record {
      low = omega (arith, (minus-Between (low r.first) (high o)).low, (minus-AtLeast (least r) (own_most q)).low);
      high = omega (arith, (minus-Between (high r.second) (low o)).high, (minus-AtMost (most r) (own_least q)).high);
      first = minus-Ordered r.first o;
      second = minus-Ordered r.second o;
    }

pub times-Rises : {s : ℕ} {p P q Q : Pair} → 0 < s → Rises p P → Rises q Q → Rises (times s p q) (times s P Q)
times-Rises {s} {p} {P} {q} {Q} h r t =
    record {
      low = (times-AtLeast s (times s p q).lo h (least r) (least t) (omega (arith, (times-Between s h (low r.first) (low t.first)).low))).low;
      high = (times-AtMost s (times s P Q).hi h (most r) (most t) (omega (arith, (times-Between s h (high r.second) (high t.second)).high))).high;
      first = times-Ordered h r.first t.first;
      second = times-Ordered h r.second t.second;
    }

pub cube_root-Rises : {s : ℕ} {p P : Pair} → 0 < s → Rises p P → Rises (cube_root s p) (cube_root s P)
cube_root-Rises {s} {p} {P} h r =
    record {
      low = (cube_root-AtLeast s (cube_root s p).lo (least r) (omega (arith, pow_three (cube_root s p).lo, (cube_root-Between s (low r.first)).low))).low;
      high = (cube_root-AtMost s (cube_root s P).hi (most r) (omega (arith, pow_three (cube_root s P).hi, (cube_root-Between s (high r.second)).high))).high;
      first = cube_root-Ordered h r.first;
      second = cube_root-Ordered h r.second;
    }

-- the laws by which a formula rises, in one set
pub ruleset rising = (plus-Rises, minus-Rises, times-Rises, cube_root-Rises, same_rises, ratio-Ordered)
