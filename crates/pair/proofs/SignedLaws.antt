-- Differences and sums as signed pairs, and coarser units: an exact result lies between the ends, the ends are in order, and a finer result lies inside a coarser one.
use Prim.Native.Nat.{ℕ, ◌*◌, ◌<◌}
use native.Mathlib.Nat.{le_trans, mul_comm}
use native.Mathlib.Omega.{arith}
use lib.IntN.{ℤ, pos, ◌+ℤ◌, ◌-ℤ◌}
use Rattle.pair.specs.SignedPairs.{SignedPair, signed, opposite, difference, signed_plus, signed_minus, coarser}
use Rattle.pair.specs.Enclosure.{Inside, SignedInside, Between, SignedBetween, Ordered, SignedOrdered}
use Rattle.pair.specs.declared.Pair.{Pair}
use Rattle.pair.proofs.IntegerLaws.{plus_scaled, le_trans_ℤ, plus_le, scaled_scaled}
use Rattle.pair.proofs.Opposites.{opposite_between, opposite_ordered, opposite_inside}
use Rattle.pair.proofs.IntegerRounding.{le_floor_ℤ, ceil_le_ℤ, floor_scaled, ceil_scaled, floor_le_ceil_ℤ}

-- the ends of a finer pair lie between those of the coarser one

pub low_between : {m : ℕ} {P p : Pair} → Inside m P p → Between m P.lo p
low_between i = record { low = i.low; high = le_trans i.mid i.high }

pub high_between : {m : ℕ} {P p : Pair} → Inside m P p → Between m P.hi p
high_between i = record { low = le_trans i.low i.mid; high = i.high }

pub low_between_ℤ : {m : ℕ} {A a : SignedPair} → SignedInside m A a → SignedBetween m A.lo a
low_between_ℤ i = record { low = i.low; high = le_trans_ℤ i.mid i.high }

pub high_between_ℤ : {m : ℕ} {A a : SignedPair} → SignedInside m A a → SignedBetween m A.hi a
high_between_ℤ i = record { low = le_trans_ℤ i.low i.mid; high = i.high }

-- a pair none of which is below zero

pub signed_ordered_lem : {p : Pair} → Ordered p → SignedOrdered (signed p)
unfolding signed
signed_ordered_lem o = omega arith

pub signed_between : {m x : ℕ} {p : Pair} → Between m x p → SignedBetween m (pos x) (signed p)
unfolding signed
signed_between b = omega arith

pub signed_inside : {m : ℕ} {P p : Pair} → Inside m P p → SignedInside m (signed P) (signed p)
unfolding signed
signed_inside i = omega arith

-- sums

pub signed_plus_between : {m : ℕ} {x y : ℤ} {a b : SignedPair} → SignedBetween m x a → SignedBetween m y b → SignedBetween m (x +ℤ y) (signed_plus a b)
unfolding signed_plus
signed_plus_between h k = record { low = rw plus_scaled (plus_le h.low k.low); high = rw plus_scaled (plus_le h.high k.high) }

pub signed_plus_ordered : {a b : SignedPair} → SignedOrdered a → SignedOrdered b → SignedOrdered (signed_plus a b)
unfolding signed_plus
signed_plus_ordered o r = record { ends = plus_le o.ends r.ends }

pub signed_plus_inside : {m : ℕ} {A a B b : SignedPair} → SignedInside m A a → SignedInside m B b → SignedInside m (signed_plus A B) (signed_plus a b)
unfolding signed_plus
signed_plus_inside i k =
    record {
      low = (signed_plus_between (low_between_ℤ i) (low_between_ℤ k)).low;
      mid = plus_le i.mid k.mid;
      high = (signed_plus_between (high_between_ℤ i) (high_between_ℤ k)).high;
    }

-- a difference is the sum with the opposite

pub signed_minus_between : {m : ℕ} {x y : ℤ} {a b : SignedPair} → SignedBetween m x a → SignedBetween m y b → SignedBetween m (x -ℤ y) (signed_minus a b)
unfolding signed_plus signed_minus opposite
signed_minus_between h k = signed_plus_between h (opposite_between k)

pub signed_minus_ordered : {a b : SignedPair} → SignedOrdered a → SignedOrdered b → SignedOrdered (signed_minus a b)
unfolding signed_plus signed_minus opposite
signed_minus_ordered o r = signed_plus_ordered o (opposite_ordered r)

pub signed_minus_inside : {m : ℕ} {A a B b : SignedPair} → SignedInside m A a → SignedInside m B b → SignedInside m (signed_minus A B) (signed_minus a b)
unfolding signed_plus signed_minus opposite
signed_minus_inside i k = signed_plus_inside i (opposite_inside k)

-- and a difference of pairs is that of signed pairs

pub difference-Between : {m x y : ℕ} {p q : Pair} → Between m x p → Between m y q → SignedBetween m (pos x -ℤ pos y) (difference p q)
unfolding signed difference signed_minus
difference-Between b c = signed_minus_between (signed_between b) (signed_between c)

pub difference-Ordered : {p q : Pair} → Ordered p → Ordered q → SignedOrdered (difference p q)
unfolding signed difference signed_minus
difference-Ordered o r = signed_minus_ordered (signed_ordered_lem o) (signed_ordered_lem r)

pub difference-Inside : {m : ℕ} {P p Q q : Pair} → Inside m P p → Inside m Q q → SignedInside m (difference P Q) (difference p q)
unfolding signed difference signed_minus
difference-Inside i k = signed_minus_inside (signed_inside i) (signed_inside k)

-- coarser units

pub coarser_between : {m k : ℕ} {x : ℤ} {a : SignedPair} → 0 < k → SignedBetween m x a → SignedBetween (k * m) x (coarser k a)
unfolding coarser
coarser_between {m} {k} {x} {a} k⁺ h =
    record {
      low = le_trans_ℤ (floor_scaled a.lo m k⁺) h.low;
      high = le_trans_ℤ h.high (ceil_scaled a.hi m k⁺);
    }

pub coarser_ordered : {k : ℕ} {a : SignedPair} → 0 < k → SignedOrdered a → SignedOrdered (coarser k a)
unfolding coarser
coarser_ordered k⁺ o = record { ends = floor_le_ceil_ℤ k⁺ o.ends }

pub coarser_holds : {m k : ℕ} {A a : SignedPair} → 0 < k → SignedInside m A a → SignedInside (k * m) A (coarser k a)
coarser_holds k⁺ i =
    record {
      low = (coarser_between k⁺ (low_between_ℤ i)).low;
      mid = i.mid;
      high = (coarser_between k⁺ (high_between_ℤ i)).high;
    }

pub coarser_inside : {m : ℕ} (k : ℕ) {A a : SignedPair} → 0 < k → SignedInside m A a → SignedInside m (coarser k A) (coarser k a)
unfolding coarser
coarser_inside {m} k {A} {a} k⁺ i =
    record {
      low = le_floor_ℤ k⁺ (rw (scaled_scaled, mul_comm m k) (coarser_between k⁺ (low_between_ℤ i)).low);
      mid = floor_le_ceil_ℤ k⁺ i.mid;
      high = ceil_le_ℤ k⁺ (rw (scaled_scaled, mul_comm m k) (coarser_between k⁺ (high_between_ℤ i)).high);
    }
