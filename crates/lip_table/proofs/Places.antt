-- The table's entries, place by place.
use Prim.Native.Nat.{ℕ, zero, suc, ◌+◌, ◌<◌}
use mathlib.Core.List.{List, map}
use mathlib.Core.Path.{◌≡◌, sym, ap, ◌∙◌}
use native.Mathlib.Nat.{add-zero, zero-add, add-suc, suc-add, not-suc-le-zero}
use native.Mathlib.Omega.{arith}
use lib.Dec.{lit<}
use lib.ListN.{get_or}
use Rattle.pair.specs.Pairs.{◌to◌}
use Rattle.pair.specs.Enclosure.{Inside}
use Rattle.section.proofs.Laws.{k_box}
use Rattle.lip_table.specs.declared.entries.Entry.{Entry}
use Rattle.lip_table.specs.Tables.{entry_count, ratio_of, entry, lower, upper, places_from, places}
use Rattle.lip_table.specs.Forms.{table_entry, table_entries}

-- the entry at place i is that of the ratio i
from : {A : Type 0} (f : ℕ → A) (d : A) (j n i : ℕ) → i < n → get_or (map f (places_from j n)) i d ≡ f (j + i)
unfolding places_from
from f d j zero i h = absurd (not-suc-le-zero h)
from f d j (suc n) zero h = ap f (sym (add-zero j))
from f d j (suc n) (suc i) h = from f d (suc j) n i (omega arith) ∙ ap f (suc-add j i ∙ sym (add-suc j i))

-- the rule of the table's entries at each place
module _ {t : List Entry} (d : Entry) (e : t ≡ table_entries) (i : ℕ) (h : i < entry_count) where
  pub entry_at : get_or t i d ≡ table_entry i
  unfolding table_entries places
  entry_at = ap (λ (u : List Entry). get_or u i d) e ∙ from table_entry d 0 entry_count i h ∙ ap table_entry (zero-add i)

  pub lower_at : (get_or t i d).0 ≡ lower i
  unfolding table_entry
  lower_at = ap (λ (x : Entry). x.0) entry_at

  pub upper_at : (get_or t i d).1 ≡ upper i
  unfolding table_entry
  upper_at = ap (λ (x : Entry). x.1) entry_at

-- each entry is from 0.5 to 0.83
pub entry_box : (i : ℕ) → i < entry_count → Inside 1 (entry i) (500000 to 830000)
unfolding entry ratio_of
entry_box i h = k_box {n = 1} {a = 0} (lit< tt) (record { low = omega arith; mid = omega arith; high = omega arith })
