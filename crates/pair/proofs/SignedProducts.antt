-- Products and quotients of signed pairs: an exact result lies between the ends, the ends are in order, and a finer result lies inside a coarser one.
use mathlib.Core.Path.{◌≡◌}
use Prim.Native.Nat.{ℕ, ◌*◌, ◌≤◌, ◌<◌}
use native.Mathlib.Nat.{le_trans, mul-pos, lt_of_mul-lt-mul_right}
use native.Mathlib.Omega.{arith}
use lib.IntN.{ℤ, pos, ◌*ℤ◌, *ℤ_comm}
use Rattle.pair.specs.Integers.{◌≼ℤ◌, floor_over, ceil_over}
use Rattle.pair.specs.SignedPairs.{SignedPair, ◌upto◌, least_product, greatest_product, signed_times, signed_over}
use Rattle.pair.specs.Enclosure.{Finer, Inside, SignedInside, Between, SignedBetween, SignedOrdered, Positive}
use Rattle.pair.specs.declared.Pair.{Pair}
use Rattle.pair.proofs.IntegerLaws.{le_antisym_ℤ, le_trans_ℤ, scaled_le, scaled_scaled, scaled_swap, scaled_product, le_times, times_le, le_product, of_least, of_greatest, least_left, least_right, greatest_left, greatest_right, le-least, greatest-le}
use Rattle.pair.proofs.IntegerRounding.{le_floor_ℤ, ceil_le_ℤ, floor_below_ℤ, ceil_above_ℤ, floor_scaled, ceil_scaled, floor_le_ceil_ℤ}
use Rattle.pair.proofs.Opposites.{neg_cancel, neg_product, product_opposite, opposite_between}
use Rattle.pair.proofs.SignedLaws.{low_between, high_between, low_between_ℤ, high_between_ℤ}

-- products: the least and the greatest of the four

pub of_least_product : (P : ℤ → Type 0) (a b : SignedPair) → P (a.lo *ℤ b.lo) → P (a.lo *ℤ b.hi) → P (a.hi *ℤ b.lo) → P (a.hi *ℤ b.hi) → P (least_product a b)
unfolding least_product
of_least_product P a b ll lh hl hh = of_least P _ _ (of_least P _ _ ll lh) (of_least P _ _ hl hh)

pub of_greatest_product : (P : ℤ → Type 0) (a b : SignedPair) → P (a.lo *ℤ b.lo) → P (a.lo *ℤ b.hi) → P (a.hi *ℤ b.lo) → P (a.hi *ℤ b.hi) → P (greatest_product a b)
unfolding greatest_product
of_greatest_product P a b ll lh hl hh = of_greatest P _ _ (of_greatest P _ _ ll lh) (of_greatest P _ _ hl hh)

least_below : {m : ℕ} {x y : ℤ} {a b : SignedPair} → SignedBetween m x a → SignedBetween m y b → least_product a b *ℤ pos (m * m) ≼ℤ x *ℤ y
unfolding least_product
least_below {m} h k =
    le_product h.low h.high k.low k.high
    (rw scaled_product (scaled_le (m * m) (le_trans_ℤ (least_left _ _) (least_left _ _))))
    (rw scaled_product (scaled_le (m * m) (le_trans_ℤ (least_left _ _) (least_right _ _))))
    (rw scaled_product (scaled_le (m * m) (le_trans_ℤ (least_right _ _) (least_left _ _))))
    (rw scaled_product (scaled_le (m * m) (le_trans_ℤ (least_right _ _) (least_right _ _))))

greatest_above : {m : ℕ} {x y : ℤ} {a b : SignedPair} → SignedBetween m x a → SignedBetween m y b → x *ℤ y ≼ℤ greatest_product a b *ℤ pos (m * m)
greatest_above {a} {b} h k = neg_cancel (rw (product_opposite a b, neg_product, neg_product) at (least_below (opposite_between h) k))

-- a product does not depend on the order of its factors

least_swapped : (a b : SignedPair) → least_product a b ≼ℤ least_product b a
unfolding least_product
least_swapped a b =
    of_least_product (λ w. least_product a b ≼ℤ w) b a
    (rw (*ℤ_comm b.lo a.lo) (le_trans_ℤ (least_left _ _) (least_left _ _)))
    (rw (*ℤ_comm b.lo a.hi) (le_trans_ℤ (least_right _ _) (least_left _ _)))
    (rw (*ℤ_comm b.hi a.lo) (le_trans_ℤ (least_left _ _) (least_right _ _)))
    (rw (*ℤ_comm b.hi a.hi) (le_trans_ℤ (least_right _ _) (least_right _ _)))

greatest_swapped : (a b : SignedPair) → greatest_product b a ≼ℤ greatest_product a b
unfolding greatest_product
greatest_swapped a b =
    of_greatest_product (λ w. w ≼ℤ greatest_product a b) b a
    (rw (*ℤ_comm b.lo a.lo) (le_trans_ℤ (greatest_left _ _) (greatest_left _ _)))
    (rw (*ℤ_comm b.lo a.hi) (le_trans_ℤ (greatest_left _ _) (greatest_right _ _)))
    (rw (*ℤ_comm b.hi a.lo) (le_trans_ℤ (greatest_right _ _) (greatest_left _ _)))
    (rw (*ℤ_comm b.hi a.hi) (le_trans_ℤ (greatest_right _ _) (greatest_right _ _)))

pub signed_times_comm : (s : ℕ) (a b : SignedPair) → signed_times s a b ≡ signed_times s b a
unfolding signed_times
signed_times_comm s a b =
    λ i. floor_over (le_antisym_ℤ (least_swapped a b) (least_swapped b a) i) s upto ceil_over (le_antisym_ℤ (greatest_swapped b a) (greatest_swapped a b) i) s

pub signed_times_between : {m s : ℕ} {x y : ℤ} {a b : SignedPair} → 0 < s → SignedBetween m x a → SignedBetween m y b → SignedBetween (m * (m * s)) (x *ℤ y) (signed_times s a b)
unfolding signed_times
signed_times_between {m} {s} s⁺ h k =
    let e : m * (m * s) ≡ s * (m * m) = omega arith in
    record {
      low = rw e (le_trans_ℤ (floor_scaled _ (m * m) s⁺) (least_below h k));
      high = rw e (le_trans_ℤ (greatest_above h k) (ceil_scaled _ (m * m) s⁺));
    }

pub signed_times_ordered : {s : ℕ} (a b : SignedPair) → 0 < s → SignedOrdered (signed_times s a b)
unfolding signed_times least_product greatest_product
signed_times_ordered a b s⁺ =
    record { ends = floor_le_ceil_ℤ s⁺ (le_trans_ℤ (le_trans_ℤ (least_left _ _) (least_left _ _)) (le_trans_ℤ (greatest_left _ _) (greatest_left _ _))) }

fine_product : {m s s' : ℕ} {x y : ℤ} {a b : SignedPair} → Finer m s s' → SignedBetween m x a → SignedBetween m y b → SignedBetween (m * s') (x *ℤ y) (signed_times s a b)
fine_product f h k = rw f.scale (signed_times_between f.some h k)

pub signed_times_inside : {m s s' : ℕ} {A a B b : SignedPair} → Finer m s s' → SignedInside m A a → SignedInside m B b → SignedInside m (signed_times s' A B) (signed_times s a b)
unfolding signed_times
signed_times_inside {m} {s} {s'} {A} {a} {B} {b} f i k =
    let s'⁺ : 0 < s' = rw f.scale (mul-pos f.many f.some) in
    let al : SignedBetween m A.lo a = low_between_ℤ i in
    let ah : SignedBetween m A.hi a = high_between_ℤ i in
    let bl : SignedBetween m B.lo b = low_between_ℤ k in
    let bh : SignedBetween m B.hi b = high_between_ℤ k in
    let r : SignedPair = signed_times s a b in
    record {
      low =
          le_floor_ℤ s'⁺
          (rw scaled_scaled
          (of_least_product (λ w. r.lo *ℤ pos (m * s') ≼ℤ w) A B (fine_product f al bl).low (fine_product f al bh).low (fine_product f ah bl).low (fine_product f ah bh).low));
      mid = (signed_times_ordered A B s'⁺).ends;
      high =
          ceil_le_ℤ s'⁺
          (rw scaled_scaled
          (of_greatest_product (λ w. w ≼ℤ r.hi *ℤ pos (m * s')) A B (fine_product f al bl).high (fine_product f al bh).high (fine_product f ah bl).high (fine_product f ah bh).high));
    }

-- quotients

module _ (l z : ℤ) (c d m y : ℕ) (h : c * m ≤ y) (k : y ≤ d * m) where
  -- what is at most, or at least, z at two divisors, at a divisor between them
  divisor_low : l *ℤ pos c ≼ℤ z → l *ℤ pos d ≼ℤ z → l *ℤ pos y ≼ℤ z *ℤ pos m
  divisor_low p q = rw (*ℤ_comm l (pos y)) (times_le l {l = pos (c * m)} {x = pos y} {h = pos (d * m)} (omega arith) (omega arith) (side c p) (side d q))
    where
      side : (e : ℕ) → l *ℤ pos e ≼ℤ z → pos (e * m) *ℤ l ≼ℤ z *ℤ pos m
      side e g = rw (*ℤ_comm (pos (e * m)) l, ← (scaled_scaled l e m)) (scaled_le m g)

  divisor_high : z ≼ℤ l *ℤ pos c → z ≼ℤ l *ℤ pos d → z *ℤ pos m ≼ℤ l *ℤ pos y
  divisor_high p q = rw (*ℤ_comm l (pos y)) (le_times l {l = pos (c * m)} {x = pos y} {h = pos (d * m)} (omega arith) (omega arith) (side c p) (side d q))
    where
      side : (e : ℕ) → z ≼ℤ l *ℤ pos e → z *ℤ pos m ≼ℤ pos (e * m) *ℤ l
      side e g = rw (*ℤ_comm (pos (e * m)) l, ← (scaled_scaled l e m)) (scaled_le m g)

pub signed_over-Between : {m : ℕ} (s : ℕ) {x : ℤ} {y : ℕ} {a : SignedPair} {q : Pair} → 0 < m → Positive q → SignedBetween m x a → Between m y q → SignedBetween y (x *ℤ pos s) (signed_over s a q)
unfolding signed_over
signed_over-Between {m} s {x} {y} {a} {q} m⁺ q⁺ h k =
    let hi⁺ : 0 < q.hi = lt_of_mul-lt-mul_right m {m = 0} {n = q.hi} (omega (arith, mul-pos q⁺.low m⁺)) in
    let r : SignedPair = signed_over s a q in
    record {
      low =
          le_trans_ℤ
          (divisor_low r.lo (a.lo *ℤ pos s) _ _ m y k.low k.high
          (le_trans_ℤ (scaled_le _ (least_left _ _)) (floor_below_ℤ q⁺.low))
          (le_trans_ℤ (scaled_le _ (least_right _ _)) (floor_below_ℤ hi⁺)))
          (rw (scaled_swap a.lo s m) (scaled_le s h.low));
      high =
          le_trans_ℤ
          (rw (scaled_swap a.hi s m) (scaled_le s h.high))
          (divisor_high r.hi (a.hi *ℤ pos s) _ _ m y k.low k.high
          (le_trans_ℤ (ceil_above_ℤ q⁺.low) (scaled_le _ (greatest_left _ _)))
          (le_trans_ℤ (ceil_above_ℤ hi⁺) (scaled_le _ (greatest_right _ _))));
    }

pub signed_over_ordered : (s : ℕ) {a : SignedPair} {q : Pair} → Positive q → SignedOrdered a → SignedOrdered (signed_over s a q)
unfolding signed_over
signed_over_ordered s {a} {q} q⁺ o =
    record { ends = le_trans_ℤ (least_left _ _) (le_trans_ℤ (floor_le_ceil_ℤ q⁺.low (scaled_le s o.ends)) (greatest_left _ _)) }

pub signed_over-Inside : {m s s' : ℕ} {A a : SignedPair} {Q q : Pair} → Finer m s s' → Positive q → SignedInside m A a → Inside m Q q → SignedInside m (signed_over s' A Q) (signed_over s a q)
unfolding signed_over
signed_over-Inside {m} {s} {s'} {A} {a} {Q} {q} f q⁺ i k =
    let lo⁺ : 0 < Q.lo = le_trans (mul-pos q⁺.low f.many) k.low in
    let hi⁺ : 0 < Q.hi = le_trans lo⁺ k.mid in
    let r : SignedPair = signed_over s a q in
    let e : s' ≡ s * m = omega (arith, f.scale) in
    let low : (y : ℕ) → Between m y q → (r.lo *ℤ pos m) *ℤ pos y ≼ℤ A.lo *ℤ pos s' =
    λ y b. rw (e, ← (scaled_scaled A.lo s m), scaled_swap r.lo m y) (scaled_le m (signed_over-Between s f.many q⁺ (low_between_ℤ i) b).low) in
    let high : (y : ℕ) → Between m y q → A.hi *ℤ pos s' ≼ℤ (r.hi *ℤ pos m) *ℤ pos y =
    λ y b. rw (e, ← (scaled_scaled A.hi s m), scaled_swap r.hi m y) (scaled_le m (signed_over-Between s f.many q⁺ (high_between_ℤ i) b).high) in
    record {
      low = le-least (le_floor_ℤ lo⁺ (low _ (low_between k))) (le_floor_ℤ hi⁺ (low _ (high_between k)));
      mid = (signed_over_ordered s' {q = Q} (record { low = lo⁺ }) (record { ends = i.mid })).ends;
      high = greatest-le (ceil_le_ℤ lo⁺ (high _ (low_between k))) (ceil_le_ℤ hi⁺ (high _ (high_between k)));
    }
