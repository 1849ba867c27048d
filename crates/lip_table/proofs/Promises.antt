-- What is promised of the table and of a lookup in it.
use Prim.Native.Nat.{ℕ, ◌*◌, ◌≤◌, ◌<◌}
use mathlib.Core.Path.{◌≡◌, refl, ap, ◌∙◌}
use native.Mathlib.Nat.{le_refl, le_trans, mul-one}
use native.Mathlib.Omega.{arith}
use lib.Dec.{lit<}
use Rattle.pair.specs.Pairs.{◌to◌}
use Rattle.pair.specs.Enclosure.{Inside}
use Rattle.pair.specs.declared.Pair.{Pair}
use Rattle.pair.proofs.Laws.{box_wider}
use Rattle.section.specs.Working.{k}
use Rattle.section.proofs.Laws.{Rises, k-Rises, k-Inside}
use Rattle.lip_table.specs.Tables.{entry_count, ratio_of, entry, lower, upper, entry_below, entry_above, ends}
use Rattle.lip_table.specs.Outcome.{coefficient_at}
use Rattle.lip_table.specs.Promises.{InRange, ends_of, LookedUp, AtOrBelow, AtOrAbove}
use Rattle.lip_table.proofs.Told.{below_near, above_near, told_inside, told_outside}
-- each end of the library's entries is k's at its ratio
pub use Rattle.lip_table.proofs.Places.{lower_at, upper_at}
-- how long the table's text is; it is written where there is room, and else refused
pub use Rattle.lip_table.proofs.TableTexts.{table_length_lem}
pub use Rattle.lip_table.proofs.Written.{table_written, table_refused}

module _ (ratio : ℕ) (h : InRange ratio) where
  -- the two entries that are told are those at or below the ratio, and at or above it
  pub entry_below_lem : AtOrBelow ratio (entry_below ratio)
  unfolding ratio_of
  entry_below_lem = record { listed = omega (arith, below_near ratio, h.most); below = omega (arith, below_near ratio, h.least); next = omega (arith, below_near ratio, h.least) }

  pub entry_above_lem : AtOrAbove ratio (entry_above ratio)
  unfolding ratio_of
  entry_above_lem = record { listed = omega (arith, above_near ratio, h.most); above = omega (arith, above_near ratio, h.least); before = omega (arith, above_near ratio, h.least) }

rises : {p P : Pair} → p.lo ≤ P.lo → p.hi ≤ P.hi → p.lo ≤ p.hi → P.lo ≤ P.hi → Rises (k 1 p) (k 1 P)
rises low high first second = k-Rises (lit< tt) (record { low = low; high = high; first = record { ends = first }; second = record { ends = second } })

-- Of a q that lies from one ratio to another k lies between the lower end of the one and the upper end of the other: k rises, and the finer lies inside.
module _ {a b : ℕ} (ha : InRange a) (hb : InRange b) (ab : a ≤ b) {m : ℕ} {q : Pair} (m⁺ : 0 < m) (i : Inside m q (a to b)) where
  between_entries : Inside m (k m q) (lower (entry_below a) to upper (entry_above b))
  unfolding entry
  between_entries =
      let below = (entry_below_lem a ha).below in
      let above = (entry_above_lem b hb).above in
      box_wider _ _ (rw (mul-one m) at (k-Inside {n = 1} {q = a to b} (lit< tt) m⁺ i))
      (record { low = (rises below (le_trans below ab) (le_refl _) ab).low })
      (record { high = (rises (le_trans ab above) above ab (le_refl _)).high })

  -- so it is for a q of more than six places, and for one that is worked as a pair
  pub looked_up_between : Inside m (k m q) ((coefficient_at a).lower to (coefficient_at b).upper)
  unfolding ends
  looked_up_between = rw (told_inside a ha.least ha.most, told_inside b hb.least hb.most) between_entries

module _ (ratio : ℕ) where
  module _ (h : InRange ratio) where
    finer_between : (m : ℕ) → 0 < m → Inside m (k m (ratio * m to ratio * m)) (ends ratio)
    unfolding ends
    finer_between m m⁺ = between_entries h h (le_refl ratio) m⁺ (record { low = le_refl _; mid = le_refl _; high = le_refl _ })

    -- a ratio in the range: k lies between the ends that are told, worked at 1,000,000 and at every whole multiple
    pub looked_up : LookedUp ratio (coefficient_at ratio)
    looked_up =
        rw (told_inside ratio h.least h.most)
        (record { accepted = (refl, refl, refl); told = refl; own = rw (mul-one ratio) at (finer_between 1 (lit< tt)); finer = finer_between })

  -- any other number: 16, and all else 0
  pub lookup_refused : (InRange ratio → ⊥) → coefficient_at ratio ≡ record { refusal = 16; line = 0; length = 0; lower = 0; upper = 0 }
  lookup_refused n = told_outside ratio (λ h. n (record { least = h.0; most = h.1 }))

-- at the ratio of an entry both ends are its own
own_below : (i : ℕ) → entry_below (ratio_of i) ≡ i
unfolding ratio_of
own_below i = omega (arith, below_near (ratio_of i))

own_above : (i : ℕ) → entry_above (ratio_of i) ≡ i
unfolding ratio_of
own_above i = omega (arith, above_near (ratio_of i))

pub lookup_at_entry : (i : ℕ) → i < entry_count → ends_of (coefficient_at (ratio_of i)) ≡ entry i
unfolding ratio_of ends
lookup_at_entry i h = ap ends_of (told_inside (ratio_of i) (omega arith) (omega arith)) ∙ rw (own_below i, own_above i)
