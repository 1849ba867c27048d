-- k of the lip: both its ends rise with q, a finer k lies inside a coarser one, and it is from 0.5 to 0.83 for q up to 0.6.
use Prim.Native.Nat.{ℕ, ◌*◌, ◌≤◌, ◌<◌}
use mathlib.Core.Path.{◌≡◌, refl}
use mathlib.Core.Bool.{Bool, true, false, cond}
use native.Mathlib.Nat.{le_refl, le_trans, mul-one, mul-pos, mul-le-mul_right}
use native.Mathlib.Omega.{arith}
use borrow.Author.Tests.{leb-true, leb-false}
use lib.Dec.{leb, lit<, lit≤}
use Rattle.pair.specs.Pairs.{◌to◌}
use Rattle.pair.specs.Enclosure.{Inside, Ordered, Positive, AtMost}
use Rattle.pair.specs.declared.Pair.{Pair}
use Rattle.pair.proofs.Laws.{ratio-Positive, ratio-Ordered, minus-Ordered, times-Ordered, cube_root-Ordered, box_wider, inside}
use Rattle.section.specs.Working.{scale_of, constant, units, k, k_at, k_past}
use Rattle.section.proofs.Ends.{scale_positive, finer, one-Fine, constant_exact, constant-Inside, units_finer}
use Rattle.section.proofs.Rising.{Rises, same_rises, plus_more}
use Rattle.section.proofs.BoxRooms.{constant_box}
use Rattle.section.proofs.CoefficientForms.{past_box, past_rises}

at_ordered : (q : ℕ) → Ordered (q to q)
at_ordered q = record { ends = le_refl q }

-- past 0.35

past_inside : {n m : ℕ} {Q q : Pair} → 0 < n → 0 < m → Inside m Q q → Inside m (k_past (m * n) Q) (k_past n q)
unfolding k_past
past_inside n⁺ m⁺ i = search (inside, finer, constant_exact, lit<) depth 20

past_least : {n : ℕ} {q : Pair} → 0 < n → Ordered q → Rises (constant n 1 2) (k_past n q)
unfolding k_past
past_least n⁺ o = search (plus_more, ratio-Ordered, minus-Ordered, times-Ordered, cube_root-Ordered, scale_positive) depth 20

-- at one value of q

module _ (n : ℕ) (n⁺ : 0 < n) where
  at_rises : (q q' : ℕ) → q ≤ q' → Rises (k_at n q) (k_at n q')
  unfolding k_at
  at_rises q q' h = by_outcome (leb q (units n 35 100)) (leb q' (units n 35 100)) refl refl
    where
      by_outcome : (b c : Bool) → leb q (units n 35 100) ≡ b → leb q' (units n 35 100) ≡ c
          → Rises (cond b (constant n 1 2) (k_past n (q to q))) (cond c (constant n 1 2) (k_past n (q' to q')))
      by_outcome true true e f = same_rises (ratio-Ordered _ _ _)
      by_outcome true false e f = past_least n⁺ (at_ordered q')
      by_outcome false true e f = absurd (omega (arith, leb-false q (units n 35 100) e, leb-true q' (units n 35 100) f))
      by_outcome false false e f = past_rises n⁺ (record { low = h; high = h; first = at_ordered q; second = at_ordered q' })

  at_least : (q : ℕ) → Rises (constant n 1 2) (k_at n q)
  unfolding k_at
  at_least q = by_outcome (leb q (units n 35 100))
    where
      by_outcome : (b : Bool) → Rises (constant n 1 2) (cond b (constant n 1 2) (k_past n (q to q)))
      by_outcome true = same_rises (ratio-Ordered _ _ _)
      by_outcome false = past_least n⁺ (at_ordered q)

  -- the same value at a finer scale
  module _ (m : ℕ) (m⁺ : 0 < m) where
    at_inside : (q : ℕ) → Inside m (k_at (m * n) (q * m)) (k_at n q)
    unfolding k_at
    at_inside q = by_outcome (leb q (units n 35 100)) (leb (q * m) (units (m * n) 35 100)) refl refl
      where
        by_outcome : (b c : Bool) → leb q (units n 35 100) ≡ b → leb (q * m) (units (m * n) 35 100) ≡ c
            → Inside m (cond c (constant (m * n) 1 2) (k_past (m * n) (q * m to q * m))) (cond b (constant n 1 2) (k_past n (q to q)))
        by_outcome true true e f = constant-Inside n⁺ m⁺ 1 2 (lit< tt) refl
        by_outcome true false e f = absurd (omega (arith, units_finer m n 35 100 refl, mul-le-mul_right m (leb-true q (units n 35 100) e), leb-false (q * m) (units (m * n) 35 100) f))
        by_outcome false true e f = absurd (omega (arith, units_finer m n 35 100 refl, mul-le-mul_right m (leb-false q (units n 35 100) e), leb-true (q * m) (units (m * n) 35 100) f))
        by_outcome false false e f = past_inside n⁺ m⁺ (record { low = le_refl _; mid = le_refl _; high = le_refl _ })

k-Ordered : {n : ℕ} {q : Pair} → 0 < n → Ordered q → Ordered (k n q)
unfolding k
k-Ordered {n} {q} n⁺ o = let r = at_rises n n⁺ q.lo q.hi o.ends in record { ends = le_trans r.first.ends r.high }

-- end by end: k rises with q
pub k-Rises : {n : ℕ} {q q' : Pair} → 0 < n → Rises q q' → Rises (k n q) (k n q')
unfolding k
k-Rises {n} {q} {q'} n⁺ r = record {
  low = (at_rises n n⁺ _ _ r.low).low;
  high = (at_rises n n⁺ _ _ r.high).high;
  first = k-Ordered n⁺ r.first;
  second = k-Ordered n⁺ r.second;
}

-- a finer k inside a coarser one: through the coarser end of q at the finer scale
pub k-Inside : {n m : ℕ} {Q q : Pair} → 0 < n → 0 < m → Inside m Q q → Inside m (k (m * n) Q) (k n q)
unfolding k
k-Inside {n} {m} {Q} {q} n⁺ m⁺ i =
    let mn⁺ : 0 < m * n = mul-pos m⁺ n⁺ in
    record {
      low = le_trans (at_inside n n⁺ m m⁺ q.lo).low (at_rises (m * n) mn⁺ _ _ i.low).low;
      mid = (k-Ordered mn⁺ (record { ends = i.mid })).ends;
      high = le_trans (at_rises (m * n) mn⁺ _ _ i.high).high (at_inside n n⁺ m m⁺ q.hi).high;
    }

pub k-Positive : {n : ℕ} (q : Pair) → 0 < n → Positive (k n q)
unfolding k
k-Positive {n} q n⁺ = record { low = le_trans (ratio-Positive (scale_of n) 1 2 (lit< tt) (constant_exact 1 2 n⁺ (lit< tt) refl)).low (at_least n n⁺ q.lo).low }

-- a box, in millionths

k_most : AtMost 830000 (k_at 1 600000)
unfolding k_at
k_most = record { high = (past_box one-Fine (lit< tt) (lit≤ tt)).high }

pub k_box : {n a : ℕ} {Q : Pair} → 0 < n → Inside n Q (a to 600000) → Inside n (k n Q) (500000 to 830000)
unfolding k
k_box {n} {a} n⁺ i =
    box_wider 500000 830000 (rw (mul-one n) at (k-Inside {n = 1} (lit< tt) n⁺ i))
    (record { low = le_trans (constant_box one-Fine 1 2 500000 (lit< tt) refl).low (at_least 1 (lit< tt) a).low })
    (record { high = k_most.high })
