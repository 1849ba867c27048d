-- The other side of zero: rounding up, the larger of two and the greatest product are rounding down, the smaller and the least product there.
use mathlib.Core.Path.{◌≡◌, refl, sym, ap, ap₂, ◌∙◌}
use Prim.Native.Nat.{ℕ, zero, suc, ◌<◌}
use native.Mathlib.Nat.{zero-div}
use native.Mathlib.Omega.{arith}
use lib.IntN.{ℤ, pos, negsuc, neg_ℤ, neg_ℤ-neg_ℤ, nat_abs, ◌-ℤ◌, ◌*ℤ◌}
use Rattle.std.proofs.lemmas.Int.{to_z-of_z, fits_signed_from_abs}
use Rattle.pair.specs.Rounding.{ceil_div}
use Rattle.pair.specs.Integers.{◌≼ℤ◌, least, greatest, floor_over, ceil_over}
use Rattle.pair.specs.SignedPairs.{SignedPair, opposite, least_product, greatest_product, signed_times, signed_over}
use Rattle.pair.specs.declared.Pair.{Pair}
use Rattle.pair.specs.Enclosure.{SignedInside, SignedBetween, SignedOrdered}
use Rattle.pair.proofs.Quotients.{ceil_le}
use Rattle.pair.proofs.IntegerParts.{neg_above, neg_below, plus_parts, times_parts, neg_size}
use Rattle.pair.proofs.IntegerLaws.{by_parts, le_antisym_ℤ, neg_le, least_left, least_right, le-least, greatest_left, greatest_right, greatest-le}

pub neg_product : (x y : ℤ) → neg_ℤ x *ℤ y ≡ neg_ℤ (x *ℤ y)
neg_product x y =
    by_parts _ _
    (simp (neg_above, neg_below) (omega (arith, simp (neg_above, neg_below) at (times_parts (neg_ℤ x) y), times_parts x y)))

pub ceil_opposite : (x : ℤ) {d : ℕ} → 0 < d → neg_ℤ (floor_over (neg_ℤ x) d) ≡ ceil_over x d
unfolding floor_over ceil_over
ceil_opposite (pos zero) {d} d⁺ = let none : ceil_div 0 d ≡ 0 = omega (arith, ceil_le {n = 0} {x = 0} d⁺ (omega arith)) in rw (zero-div d, none)
ceil_opposite (pos (suc n)) d⁺ = neg_ℤ-neg_ℤ _
ceil_opposite (negsuc n) d⁺ = refl

-- −x, as it is worked
pub zero_less : (x : ℤ) → pos 0 -ℤ x ≡ neg_ℤ x
zero_less x = by_parts _ _ (omega (arith, plus_parts (pos 0) (neg_ℤ x)))

pub ceil_by_floor : (a b : ℤ) (d : ℕ) → 0 < d → pos 0 -ℤ floor_over ((pos 0 -ℤ a) *ℤ b) d ≡ ceil_over (a *ℤ b) d
ceil_by_floor a b d d⁺ = rw (zero_less, zero_less a, neg_product a b) (ceil_opposite (a *ℤ b) d⁺)

pub zero_less_size : (x : ℤ) → nat_abs (pos 0 -ℤ x) ≡ nat_abs x
zero_less_size x = rw zero_less (neg_size x)

pub ruleset zero_less_steps = (to_z-of_z, zero_less, zero_less_size, fits_signed_from_abs)

pub ruleset by_opposite = (to_z-of_z, zero_less_size, fits_signed_from_abs, ceil_by_floor)

over_zero : {x y : ℤ} → x ≼ℤ neg_ℤ y → y ≼ℤ neg_ℤ x
over_zero {x} {y} h = omega (arith, neg_above x, neg_below x, neg_above y, neg_below y)

pub neg_cancel : {x y : ℤ} → neg_ℤ x ≼ℤ neg_ℤ y → y ≼ℤ x
neg_cancel {x} {y} h = omega (arith, neg_above x, neg_below x, neg_above y, neg_below y)

least_opposite : (x y : ℤ) → least (neg_ℤ x) (neg_ℤ y) ≡ neg_ℤ (greatest x y)
least_opposite x y =
    le_antisym_ℤ
    (over_zero (greatest-le (over_zero (least_left _ _)) (over_zero (least_right _ _))))
    (le-least (neg_le (greatest_left x y)) (neg_le (greatest_right x y)))

greatest_comm : (x y : ℤ) → greatest x y ≡ greatest y x
greatest_comm x y = le_antisym_ℤ (greatest-le (greatest_right y x) (greatest_left y x)) (greatest-le (greatest_right x y) (greatest_left x y))

pub product_opposite : (a b : SignedPair) → least_product (opposite a) b ≡ neg_ℤ (greatest_product a b)
unfolding least_product greatest_product opposite
product_opposite a b = ap₂ least (end a.hi) (end a.lo) ∙ least_opposite _ _ ∙ ap neg_ℤ (greatest_comm _ _)
  where
    end : (x : ℤ) → least (neg_ℤ x *ℤ b.lo) (neg_ℤ x *ℤ b.hi) ≡ neg_ℤ (greatest (x *ℤ b.lo) (x *ℤ b.hi))
    end x = rw (neg_product x b.lo, neg_product x b.hi) (least_opposite _ _)

pub times_opposite : {s : ℕ} (a b : SignedPair) → 0 < s → neg_ℤ (signed_times s (opposite a) b).lo ≡ (signed_times s a b).hi
unfolding signed_times
times_opposite {s} a b s⁺ = ap (λ (z : ℤ). neg_ℤ (floor_over z s)) (product_opposite a b) ∙ ceil_opposite _ s⁺

pub over_opposite : (s : ℕ) (a : SignedPair) (q : Pair) → 0 < q.lo → 0 < q.hi → neg_ℤ (signed_over s (opposite a) q).lo ≡ (signed_over s a q).hi
unfolding signed_over opposite
over_opposite s a q lo⁺ hi⁺ =
    neg_least _ _ ∙ ap₂ greatest (end lo⁺) (end hi⁺)
  where
    neg_least : (x y : ℤ) → neg_ℤ (least x y) ≡ greatest (neg_ℤ x) (neg_ℤ y)
    neg_least x y =
        ap neg_ℤ (ap₂ least (sym (neg_ℤ-neg_ℤ x)) (sym (neg_ℤ-neg_ℤ y)) ∙ least_opposite (neg_ℤ x) (neg_ℤ y)) ∙ neg_ℤ-neg_ℤ _

    end : {d : ℕ} → 0 < d → neg_ℤ (floor_over (neg_ℤ a.hi *ℤ pos s) d) ≡ ceil_over (a.hi *ℤ pos s) d
    end d⁺ = rw neg_product (ceil_opposite (a.hi *ℤ pos s) d⁺)

pub opposite_between : {m : ℕ} {x : ℤ} {a : SignedPair} → SignedBetween m x a → SignedBetween m (neg_ℤ x) (opposite a)
unfolding opposite
opposite_between h = record { low = rw neg_product (neg_le h.high); high = rw neg_product (neg_le h.low) }

pub opposite_ordered : {a : SignedPair} → SignedOrdered a → SignedOrdered (opposite a)
unfolding opposite
opposite_ordered o = record { ends = neg_le o.ends }

pub opposite_inside : {m : ℕ} {A a : SignedPair} → SignedInside m A a → SignedInside m (opposite A) (opposite a)
unfolding opposite
opposite_inside i = record { low = rw neg_product (neg_le i.high); mid = neg_le i.mid; high = rw neg_product (neg_le i.low) }
