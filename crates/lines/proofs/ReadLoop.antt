-- The loop that reads a table's lines into an array: before each line, what is left of the bytes, and the values of the lines before.
use Rattle.std.specs.Prelude.{Result, Ok, Err}
use Prim.Native.Nat.{ℕ, suc, ◌+◌, ◌-◌, ◌<◌, ◌≤◌}
use mathlib.Core.List.{List, [], ◌∷◌, ◌++◌, map, append-nil}
use mathlib.Core.Path.{◌≡◌, refl, sym, ap, subst, ◌∙◌}
use native.Mathlib.Numerals.{add-one}
use native.Mathlib.Omega.{arith}
use lib.IntN.{ℤ, pos}
use lib.ListN.{length, take, drop, set, get_or, drop_of_length-le, length-map, get_or-map, length-set, replicate, length-replicate, take-append-drop}
use lib.Seq.{drop-cons, drop-drop, length-take-le, take_all, take-suc-set, take-take}
use Rattle.std.proofs.lemmas.List.{nil_from_length, drop-set-lt, drop-replicate}
use Rattle.lines.specs.declared.keys.Key.{Key}
use Rattle.lines.specs.declared.keys.Kind.TheVariants.{Letter}
use Rattle.lines.specs.Fields.{Field, field}
use Rattle.lines.specs.Reading.{got, bad, read_line, values, bad_line, read_end, read_from, read_lines}
use Rattle.lines.specs.declared.reading.BadLine.{BadLine}
use Rattle.lines.specs.Forms.{reading, padded}
use Rattle.lines.proofs.SpeltLaws.{spelt_count}
use Rattle.lines.proofs.ReadTables.{behind, behind_snoc, behind_bad, behind-values, by_reading, line_next, line_stop, reads_values}

-- a key by default, which no index within the code's slices reads
abbrev pub no_key : Key
no_key = record { text = record { ref_ptr = (0, 0); now = [] }; kind = Letter 0 0 }

-- The first i lines of s, which are to be those of the table, have the values in front of vs; t is left.
pub record Begun (keys : List Key) (s : List ℕ) (i : ℕ) (vs : List ℤ) (t : List ℕ) : Type 0 where
  pub whole : read_lines (map field keys) s ≡ behind (take i vs) (read_from (suc i) (drop i (map field keys)) t)

pub none_read : (keys : List Key) (s : List ℕ) (vs : List ℤ) → Begun keys s 0 vs s
none_read keys s vs = record { whole = refl }

module _ {keys : List Key} {s : List ℕ} {i : ℕ} {vs : List ℤ} {t : List ℕ} (b : Begun keys s i vs t) where
  -- line i is in the table
  module _ (d : Key) (more : i < length keys) where
    T : List Field
    T = map field keys

    line_of_table : read_lines (map field keys) s ≡ behind (take i vs) (read_from (suc i) (field (get_or keys i d) ∷ drop (suc i) (map field keys)) t)
    line_of_table =
        b.whole
        ∙ ap (λ (U : List Field). behind (take i vs) (read_from (suc i) U t))
        (drop-cons (map field keys) i (field d) (omega (arith, length-map keys field)) ∙ ap (λ (F : Field). F ∷ drop (suc i) (map field keys)) (get_or-map field keys i d))

    pub line_bad : read_line (field (get_or keys i d)) t ≡ bad → read_lines (map field keys) s ≡ bad_line (i + 1)
    line_bad h =
        line_of_table ∙ ap (behind (take i vs)) (line_stop (suc i) (field (get_or keys i d)) (drop (suc i) (map field keys)) t h)
        ∙ behind_bad (take i vs) (suc i) ∙ ap bad_line (sym (add-one i))

    pub line_more : (v : ℤ) (u : List ℕ) → i < length vs → read_line (field (get_or keys i d)) t ≡ got v u → Begun keys s (i + 1) (set vs i v) u
    line_more v u room h = subst (λ (k : ℕ). Begun keys s k (set vs i v) u) (sym (add-one i)) (record {
      whole =
          line_of_table ∙ ap (behind (take i vs)) (line_next (suc i) (field (get_or keys i d)) (drop (suc i) (map field keys)) t v u h)
          ∙ sym (behind_snoc (take i vs) v (read_from (suc (suc i)) (drop (suc i) (map field keys)) u))
          ∙ ap (λ (l : List ℤ). behind l (read_from (suc (suc i)) (drop (suc i) (map field keys)) u)) (sym (take-suc-set vs i v room));
    })

  -- all lines are read
  module _ (all : length keys ≤ i) where
    last_line : read_lines (map field keys) s ≡ behind (take i vs) (read_end (suc i) t)
    unfolding read_from
    last_line =
        b.whole
        ∙ ap (λ (U : List Field). behind (take i vs) (read_from (suc i) U t))
        (drop_of_length-le (map field keys) {i = i} (omega (arith, length-map keys field)))

    pub table_end : length vs ≤ i → length t ≡ 0 → read_lines (map field keys) s ≡ values vs
    unfolding read_end
    table_end full h =
        last_line ∙ ap (λ (l : List ℕ). behind (take i vs) (read_end (suc i) l)) (nil_from_length t h)
        ∙ behind-values (take i vs) [] ∙ ap values (append-nil (take i vs) ∙ take_all i vs full)

    pub table_behind : 0 < length t → read_lines (map field keys) s ≡ bad_line (i + 1)
    unfolding read_end
    table_behind h =
        last_line ∙ ap (λ (l : List ℕ). behind (take i vs) (read_end (suc i) l)) (drop-cons t 0 0 h) ∙ behind_bad (take i vs) (suc i)
        ∙ ap bad_line (sym (add-one i))

-- The same in room for N values: zeros stand behind those of the lines before.
pub record FirstRead (N : ℕ) (keys : List Key) (s : List ℕ) (i : ℕ) (vs : List ℤ) (t : List ℕ) : Type 0 where
  pub begun : Begun keys s i vs t
  pub all : length vs ≡ N
  pub zeros : drop i vs ≡ replicate (N - i) (pos 0)

pub first_none : (N : ℕ) (keys : List Key) (s : List ℕ) → FirstRead N keys s 0 (replicate N (pos 0)) s
first_none N keys s =
    let whole : N ≡ N - 0 = omega arith in
    record { begun = none_read keys s _; all = length-replicate N (pos 0); zeros = ap (λ (n : ℕ). replicate n (pos 0)) whole }

module _ {N : ℕ} {keys : List Key} {s : List ℕ} {i : ℕ} {vs : List ℤ} {t : List ℕ} (f : FirstRead N keys s i vs t) where
  pub first_more : (d : Key) → i < length keys → (v : ℤ) (u : List ℕ) → i < length vs → read_line (field (get_or keys i d)) t ≡ got v u
      → FirstRead N keys s (i + 1) (set vs i v) u
  first_more d more v u room h =
      let fewer : N - i - 1 ≡ N - (i + 1) = omega arith in
      record {
        begun = line_more f.begun d more v u room h;
        all = length-set vs i v ∙ f.all;
        zeros =
            drop-set-lt (i + 1) vs i v (omega arith) ∙ sym (drop-drop 1 i vs) ∙ ap (drop 1) f.zeros
            ∙ drop-replicate 1 (N - i) (pos 0) ∙ ap (λ (n : ℕ). replicate n (pos 0)) fewer;
      }

  -- what is answered of a bad line, of bytes behind the lines, and of the lines
  pub first_bad : (d : Key) → i < length keys → read_line (field (get_or keys i d)) t ≡ bad → padded N (read_lines (map field keys) s) ≡ Err (record { 0 = i + 1 })
  unfolding padded
  first_bad d more h = ap (padded N) (line_bad f.begun d more h)

  pub first_behind : length keys ≤ i → 0 < length t → padded N (read_lines (map field keys) s) ≡ Err (record { 0 = i + 1 })
  unfolding padded
  first_behind all h = ap (padded N) (table_behind f.begun all h)

  pub first_all : length keys ≤ i → i ≤ N → length t ≡ 0 → padded N (read_lines (map field keys) s) ≡ Ok vs
  unfolding padded
  first_all all most h =
      let front : Begun keys s i (take i vs) t = record { whole = rw (take-take i i vs (omega arith)) f.begun.whole } in
      let n : length (take i vs) ≡ i = length-take-le i vs (omega (arith, f.all)) in
      ap (padded N) (table_end front all (omega (arith, n)) h)
      ∙ rw n (ap Ok (ap (λ (l : List ℤ). take i vs ++ l) (sym f.zeros) ∙ take-append-drop i vs))

-- what the loop needs before, at and behind a line
pub ruleset first_read = (first_none, first_bad, first_behind, first_all)

-- With as many keys as there is room no zero stands behind the values.
pub table_read : (keys : List Key) (s : List ℕ) (N : ℕ) (r : Result (List ℤ) BadLine) → length keys ≡ N → r ≡ padded N (read_lines (map field keys) s)
    → reading r ≡ read_lines (map field keys) s
unfolding padded
table_read keys s N r n e =
    by_reading (map field keys) s (λ vs h.
    let count : length vs ≡ N = omega (arith, spelt_count (map field keys) vs ((reads_values (map field keys) s vs).0 h).spelt, length-map keys field, n) in
    let none : N - length vs ≡ 0 = omega (arith, count) in
    ap reading (e ∙ ap (padded N) h ∙ ap (λ (k : ℕ). Ok (vs ++ replicate k (pos 0))) none ∙ ap Ok (append-nil vs)) ∙ sym h)
    (λ l h. ap reading (e ∙ ap (padded N) h) ∙ sym h)

pub ruleset all_read = (table_read)
