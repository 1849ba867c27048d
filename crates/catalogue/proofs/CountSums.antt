-- The counts add up to the sheets.
use Prim.Native.Nat.{ℕ, zero, suc, ◌+◌, ◌≤◌, ◌<◌}
use mathlib.Core.Bool.{cond}
use mathlib.Core.List.{List, [], ◌∷◌, map}
use mathlib.Core.Path.{◌≡◌, refl}
use native.Mathlib.Omega.{arith}
use borrow.Author.Tests.{ne_eqb, eqb-true, eqb-false}
use lib.Dec.{eqb}
use lib.ListN.{length, get_or}
use Rattle.std.specs.List.{range_with_len}
use Rattle.pair.proofs.Numbers.{by_test}
use Rattle.catalogue.specs.Catalogues.{number_of, counted, counted_refusals}
use Rattle.catalogue.specs.Promises.{sum}
use Rattle.catalogue.proofs.EntryLaws.{number_most}

-- 1 at the number n, and 0 at others
mark : ℕ → ℕ → ℕ
mark n k = cond (eqb n k) 1 0

-- among k numbers from a on, n is not at all, or once
not_among : (n a k : ℕ) → n < a → sum (map (mark n) (range_with_len a k)) ≡ 0
unfolding mark sum
not_among n a zero h = refl
not_among n a (suc k) h = rw (ne_eqb n a (λ e. omega arith)) (omega (arith, not_among n (a + 1) k (omega arith)))

among_once : (n a k : ℕ) → a ≤ n → n < a + k → sum (map (mark n) (range_with_len a k)) ≡ 1
unfolding mark sum
among_once n a zero h g = absurd (omega arith)
among_once n a (suc k) h g =
    by_test (eqb n a) (λ b. cond b 1 0 + sum (map (mark n) (range_with_len (a + 1) k)) ≡ 1)
    (λ e. omega (arith, not_among n (a + 1) k (omega (arith, eqb-true n a e))))
    (λ e. omega (arith, among_once n (a + 1) k (omega (arith, eqb-false n a e)) (omega arith)))

-- one sheet more adds its own mark under each number
first_counted : (p : List ℕ) (ps : List (List ℕ)) (ns : List ℕ) → sum (map (counted (p ∷ ps)) ns) ≡ sum (map (mark (number_of p)) ns) + sum (map (counted ps) ns)
unfolding counted mark sum
first_counted p ps [] = refl
first_counted p ps (n ∷ ns) = omega (arith, first_counted p ps ns)

-- the counts under all twelve numbers add up to the sheets
all_counted : (ps : List (List ℕ)) → length ps ≡ sum (map (counted ps) (range_with_len 0 12))
unfolding counted sum
all_counted [] = refl
all_counted (p ∷ ps) =
    omega (
      arith,
      all_counted ps,
      first_counted p ps (range_with_len 0 12),
      among_once (number_of p) 0 12 (omega arith) (omega (arith, number_most p)),
    )

-- no sheet is counted under 1 where none is answered so
none_under_one : (ps : List (List ℕ)) → ((i : ℕ) → i < length ps → number_of (get_or ps i []) ≡ 1 → ⊥) → counted ps 1 ≡ 0
unfolding counted
none_under_one [] n = refl
none_under_one (p ∷ ps) n =
    rw (ne_eqb (number_of p) 1 (n 0 (omega arith))) (omega (arith, none_under_one ps (λ i h. n (suc i) (omega arith))))

-- The accepted and the refused add up to the sheets, where none is answered with 1.
pub adds_up : (ps : List (List ℕ)) → ((i : ℕ) → i < length ps → number_of (get_or ps i []) ≡ 1 → ⊥) → length ps ≡ counted ps 0 + sum (map (counted ps) counted_refusals)
unfolding sum
adds_up ps n = omega (arith, all_counted ps, none_under_one ps n)
