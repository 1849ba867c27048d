-- Runs of so many: the first, and those behind it; joined they are the list; how many; what tells them. Rows of numbers in runs.
use Prim.Native.Nat.{ℕ, zero, suc, ◌+◌, ◌-◌, ◌*◌, ◌^◌, ◌/◌, ◌≤◌, ◌<◌, min}
use mathlib.Core.List.{List, [], ◌∷◌, ◌++◌, append_assoc, append-nil, map, map-append}
use mathlib.Core.Path.{◌≡◌, refl, sym, ap, ◌∙◌}
use native.Mathlib.Nat.{add-div_right, div-eq_of_lt}
use native.Mathlib.Omega.{arith}
use borrow.Author.Tests.{ltb-true, ltb-false}
use lib.Dec.{ltb}
use lib.ListN.{length, get_or, take, drop, length-append, length-take, length-drop, take-append-drop, drop_of_length-le}
use lib.Seq.{take_all, take_at, drop_at}
use Rattle.questions.proofs.Laws.{by_test}
use Rattle.lines.specs.Decimal.{decimal, row_text}
use Rattle.lines.specs.Runs.{runs_in, runs, RunsOf, rows_text}
use Rattle.lines.specs.Splitting.{joined, all_texts}
use Rattle.lines.proofs.DecimalLaws.{decimal-length}

-- The runs that k elements make, and those behind the first.
module _ (n k : ℕ) (p : 1 ≤ n) (some : 0 < k) where
  less_one_run : (k - n + (n - 1)) / n ≡ (k - 1) / n
  less_one_run =
      by_test (ltb k n) (λ t. (k - n + (n - 1)) / n ≡ (k - 1) / n)
      (λ e. let below = ltb-true k n e in div-eq_of_lt (omega arith) ∙ sym (div-eq_of_lt (omega arith)))
      (λ e. let above = ltb-false k n e in ap (λ (m : ℕ). m / n) (omega arith))

  one_run_more : suc ((k - n + (n - 1)) / n) ≡ (k + (n - 1)) / n
  one_run_more =
      let same : k - 1 + n ≡ k + (n - 1) = omega arith in
      omega (arith, less_one_run, add-div_right (k - 1) p, ap (λ (m : ℕ). m / n) same)

module _ {A : Type 0} where
  pub joined_none : joined {A = A} [] ≡ []
  unfolding joined
  joined_none = refl

  pub joined_one : (x : List A) → joined (x ∷ []) ≡ x
  unfolding joined
  joined_one x = append-nil x

  pub joined-append : (xs ys : List (List A)) → joined (xs ++ ys) ≡ joined xs ++ joined ys
  unfolding joined
  joined-append [] ys = refl
  joined-append (x ∷ xs) ys = ap (λ (l : List A). x ++ l) (joined-append xs ys) ∙ sym (append_assoc x (joined xs) (joined ys))

  -- any number of steps from the length on gives the same
  enough : (k m n : ℕ) (xs : List A) → 1 ≤ n → length xs ≤ k → length xs ≤ m → runs_in k n xs ≡ runs_in m n xs
  unfolding runs_in
  enough zero zero n xs p h g = refl
  enough zero (suc m) n [] p h g = refl
  enough zero (suc m) n (x ∷ xs) p h g = absurd (omega arith)
  enough (suc k) zero n [] p h g = refl
  enough (suc k) zero n (x ∷ xs) p h g = absurd (omega arith)
  enough (suc k) (suc m) n [] p h g = refl
  enough (suc k) (suc m) n (x ∷ xs) p h g =
      let left = length-drop n (x ∷ xs) in
      ap (λ (l : List (List A)). take n (x ∷ xs) ∷ l) (enough k m n (drop n (x ∷ xs)) p (omega arith) (omega arith))

  pub runs_none : (n : ℕ) → runs {A = A} n [] ≡ []
  unfolding runs runs_in
  runs_none n = refl

  -- the first run, and those behind it
  pub runs_next : (n : ℕ) (xs : List A) → 1 ≤ n → 0 < length xs → runs n xs ≡ take n xs ∷ runs n (drop n xs)
  unfolding runs runs_in
  runs_next n [] p h = absurd (omega arith)
  runs_next n (x ∷ xs) p h =
      let rest = drop n (x ∷ xs) in
      ap (λ (l : List (List A)). take n (x ∷ xs) ∷ l) (enough (length xs) (length rest) n rest p (omega (arith, length-drop n (x ∷ xs))) (omega arith))

  -- the first run as the library's chunks give it
  pub runs_chunk : (n : ℕ) (all chunk rest : List A) → 1 ≤ n → all ≡ chunk ++ rest → length chunk ≡ min n (length all) → 0 < length all
      → runs n all ≡ chunk ∷ runs n rest
  runs_chunk n all chunk [] p e size some =
      let whole : all ≡ chunk = e ∙ append-nil chunk in
      runs_next n all p some
      ∙ rw (take_all n all (omega (arith, ap length whole)), drop_of_length-le all {i = n} (omega (arith, ap length whole)), whole) refl
  runs_chunk n all chunk (x ∷ rest) p e size some =
      let full : length chunk ≡ n = omega (arith, ap length e, length-append chunk (x ∷ rest)) in
      runs_next n all p some ∙ rw e (rw (take_at chunk (x ∷ rest) n full, drop_at chunk (x ∷ rest) n full) refl)

  -- What holds of no elements, and of some where it holds of those behind the first run.
  module _ (n : ℕ) (P : List A → Type 0) (p : 1 ≤ n) (none : P []) (more : (xs : List A) → 0 < length xs → P (drop n xs) → P xs) where
    by_runs_in : (k : ℕ) (xs : List A) → length xs ≤ k → P xs
    by_runs_in zero [] h = none
    by_runs_in zero (x ∷ xs) h = absurd (omega arith)
    by_runs_in (suc k) [] h = none
    by_runs_in (suc k) (x ∷ xs) h = more (x ∷ xs) (omega arith) (by_runs_in k (drop n (x ∷ xs)) (omega (arith, length-drop n (x ∷ xs))))

    by_runs : (xs : List A) → P xs
    by_runs xs = by_runs_in (length xs) xs (omega arith)

  -- the runs joined are the list
  pub runs-joined : (n : ℕ) (xs : List A) → 1 ≤ n → joined (runs n xs) ≡ xs
  unfolding joined
  runs-joined n xs p =
      by_runs n (λ xs. joined (runs n xs) ≡ xs) p (ap joined (runs_none n))
      (λ xs h r. ap joined (runs_next n xs p h) ∙ ap (λ (l : List A). take n xs ++ l) r ∙ take-append-drop n xs) xs

  pub runs_count : (n : ℕ) (xs : List A) → 1 ≤ n → length (runs n xs) ≡ (length xs + (n - 1)) / n
  runs_count n xs p =
      by_runs n (λ xs. length (runs n xs) ≡ (length xs + (n - 1)) / n) p (ap length (runs_none n) ∙ sym (div-eq_of_lt (omega arith)))
      (λ xs h r. ap length (runs_next n xs p h) ∙ ap suc (r ∙ ap (λ (k : ℕ). (k + (n - 1)) / n) (length-drop n xs)) ∙ one_run_more n (length xs) p h) xs

  -- a run before others: it has n elements where there are others
  run_before : (n : ℕ) (r : List A) (rs : List (List A)) → (1 ≤ length r) × (length r ≤ n) → (0 < length rs → length r ≡ n) → RunsOf n rs → RunsOf n (r ∷ rs)
  unfolding RunsOf
  run_before n r [] h e g = h
  run_before n r (r' ∷ rs) h e g = (e (omega arith), g)

  -- where there are runs there are elements
  runs_some : (n : ℕ) (xs : List A) → 0 < length (runs n xs) → 0 < length xs
  unfolding runs runs_in
  runs_some n [] h = h
  runs_some n (x ∷ xs) h = omega arith

  -- each run but the last has n elements, and the last at least one and no more
  pub runs_are : (n : ℕ) (xs : List A) → 1 ≤ n → RunsOf n (runs n xs)
  unfolding RunsOf
  runs_are n xs p =
      by_runs n (λ xs. RunsOf n (runs n xs)) p (rw runs_none tt)
      (λ xs h r.
      let size = length-take n xs in
      rw (runs_next n xs p h)
      (run_before n (take n xs) (runs n (drop n xs)) (omega arith, omega arith)
      (λ g. omega (arith, length-drop n xs, runs_some n (drop n xs) g)) r))
      xs

  -- n elements before others are the first run
  run_first : (n : ℕ) (r xs : List A) → 1 ≤ n → length r ≡ n → runs n (r ++ xs) ≡ r ∷ runs n xs
  run_first n r xs p e = runs_next n (r ++ xs) p (omega (arith, length-append r xs)) ∙ rw (take_at r xs n e, drop_at r xs n e)

  -- no more elements than n are one run
  run_last : (n : ℕ) (r : List A) → (1 ≤ length r) × (length r ≤ n) → runs n r ≡ r ∷ []
  run_last n r h = runs_next n r (omega arith) (omega arith) ∙ rw (take_all n r h.1, drop_of_length-le r {i = n} h.1, runs_none)

  -- runs joined are cut into those runs
  pub runs_unique : (n : ℕ) (rs : List (List A)) → 1 ≤ n → RunsOf n rs → runs n (joined rs) ≡ rs
  unfolding RunsOf joined
  runs_unique n [] p h = runs_none n
  runs_unique n (r ∷ []) p h = ap (runs n) (append-nil r) ∙ run_last n r h
  runs_unique n (r ∷ r' ∷ rs) p h =
      run_first n r (joined (r' ∷ rs)) p h.0 ∙ ap (λ (l : List (List A)). r ∷ l) (runs_unique n (r' ∷ rs) p h.1)

  -- runs of one are the elements
  pub runs-one : (xs : List A) → runs 1 xs ≡ map (λ x. x ∷ []) xs
  unfolding runs runs_in
  runs-one [] = refl
  runs-one (x ∷ xs) = ap (λ (l : List (List A)). (x ∷ []) ∷ l) (runs-one xs)

-- Rows of numbers.

pub rows_join : (xs ys : List (List ℕ)) → rows_text (xs ++ ys) ≡ rows_text xs ++ rows_text ys
unfolding rows_text
rows_join xs ys = ap joined (map-append row_text xs ys) ∙ joined-append (map row_text xs) (map row_text ys)

-- rows of what stands for a row's numbers, written as texts one behind the other
pub rows_as_texts : {A : Type 0} (f : A → List ℕ) (xs : List A) → all_texts (λ x. row_text (f x)) xs ≡ rows_text (map f xs)
unfolding rows_text joined
rows_as_texts f [] = refl
rows_as_texts f (x ∷ xs) = ap (λ (l : List ℕ). row_text (f x) ++ l) (rows_as_texts f xs)

pub row_size : (n : ℕ) (ns : List ℕ) → length (row_text (n ∷ ns)) ≡ length (decimal n) + (1 + length (row_text ns))
unfolding row_text
row_size n ns = simp length-append (omega arith)

-- numbers of 64 bits take at most 21 bytes each
pub row_most : (ns : List ℕ) → ((i : ℕ) → get_or ns i 0 < 10 ^ 20) → length (row_text ns) ≤ 21 * length ns
unfolding row_text
row_most [] h = omega arith
row_most (n ∷ ns) h = omega (arith, row_size n ns, decimal-length 19 n (h 0), row_most ns (λ i. h (suc i)))

-- one row of all numbers takes as many bytes as two rows of them
pub row_sizes_append : (xs ys : List ℕ) → length (row_text (xs ++ ys)) ≡ length (row_text xs) + length (row_text ys)
unfolding row_text
row_sizes_append [] ys = omega arith
row_sizes_append (x ∷ xs) ys = omega (arith, row_size x (xs ++ ys), row_size x xs, row_sizes_append xs ys)

rows_next : (w : ℕ) (ns : List ℕ) → 1 ≤ w → 0 < length ns → rows_text (runs w ns) ≡ row_text (take w ns) ++ rows_text (runs w (drop w ns))
unfolding rows_text joined
rows_next w ns p h = ap rows_text (runs_next w ns p h)

-- rows by their first, as the library's chunks give it
pub rows_chunk : (w : ℕ) (all row rest : List ℕ) → 1 ≤ w → all ≡ row ++ rest → length row ≡ min w (length all) → 0 < length all
    → rows_text (runs w all) ≡ row_text row ++ rows_text (runs w rest)
unfolding rows_text joined
rows_chunk w all row rest p e size some = ap rows_text (runs_chunk w all row rest p e size some)

pub rows_ended : (w : ℕ) (ns : List ℕ) → length ns ≡ 0 → rows_text (runs w ns) ≡ []
unfolding rows_text joined
rows_ended w [] h = rw runs_none
rows_ended w (n ∷ ns) h = absurd (omega arith)

-- rows take as many bytes as one row of all numbers
pub rows_length : (w : ℕ) (ns : List ℕ) → 1 ≤ w → length (rows_text (runs w ns)) ≡ length (row_text ns)
unfolding rows_text joined row_text
rows_length w ns p =
    by_runs w (λ ns. length (rows_text (runs w ns)) ≡ length (row_text ns)) p (rw runs_none)
    (λ ns h r.
    let text = row_text (take w ns) in
    ap length (rows_next w ns p h) ∙ length-append text (rows_text (runs w (drop w ns)))
    ∙ ap (λ (k : ℕ). length text + k) r ∙ sym (row_sizes_append (take w ns) (drop w ns))
    ∙ ap (λ (l : List ℕ). length (row_text l)) (take-append-drop w ns))
    ns
