-- The sheets of a catalogue: the first one and those behind it, the pieces joined, how many there are.
use Prim.Native.Nat.{ℕ, zero, suc, ◌+◌, ◌-◌, ◌/◌, ◌≤◌, ◌<◌, min}
use mathlib.Core.List.{List, [], ◌∷◌, ◌++◌, map}
use mathlib.Core.Path.{◌≡◌, refl, sym, ap, ◌∙◌, subst}
use native.Mathlib.Omega.{arith}
use borrow.Author.Tests.{ltb-true, ltb-false}
use lib.Dec.{ltb}
use lib.ListN.{length, take, drop, length-append, length-map, length-take, length-drop, take-append-drop}
use lib.Seq.{take_all, take_at, drop-append_seam, drop-length}
use Rattle.pair.proofs.Numbers.{by_test}
use Rattle.lines.specs.Splitting.{split_lines, joined, newlines, unended}
use Rattle.lines.specs.Runs.{runs}
use Rattle.lines.proofs.Laws.{joined_none, joined_one, joined-append, front, front_next, front_taken, lines_behind_front, lines_of_front, newlines-append, unended-append}
use Rattle.lines.proofs.Laws.{split_none, split_some, split_most, split_count, split_append, split_joined, runs_none, runs_next, runs_count}
use Rattle.section.specs.Sheets.{sheet_lines}
use Rattle.catalogue.specs.Catalogues.{sheets_in}
use Rattle.catalogue.specs.Forms.{sheet_length}
use Rattle.catalogue.specs.Promises.{WholeSheet, SheetsOf}

-- The first sheet.
abbrev pub first_sheet : List ℕ → List ℕ
first_sheet s = front sheet_lines s

pub sheets_none : sheets_in [] ≡ []
unfolding sheets_in
sheets_none = ap (λ (ls : List (List ℕ)). map joined (runs sheet_lines ls)) split_none ∙ ap (map joined) (runs_none sheet_lines)

-- the first sheet, and those behind it
pub sheets_next : (s : List ℕ) → 0 < length s → sheets_in s ≡ first_sheet s ∷ sheets_in (drop (length (first_sheet s)) s)
unfolding sheets_in
sheets_next s h =
    ap (map joined) (runs_next sheet_lines (split_lines s) (omega arith) (split_some s h))
    ∙ ap (λ (ls : List (List ℕ)). first_sheet s ∷ map joined (runs sheet_lines ls)) (sym (lines_behind_front sheet_lines s))

-- a sheet has at least one byte
some_taken : (s : List ℕ) (n : ℕ) → split_lines (drop n s) ≡ drop sheet_lines (split_lines s) → 0 < length s → 0 < n
some_taken s zero e h = absurd (omega (arith, ap length e, length-drop sheet_lines (split_lines s), split_some s h))
some_taken s (suc n) e h = omega arith

pub first_some : (s : List ℕ) → 0 < length s → 0 < length (first_sheet s)
first_some s h = some_taken s (length (first_sheet s)) (lines_behind_front sheet_lines s) h

-- as the code takes it
pub front_is : (s : List ℕ) → length (front sheet_lines s) ≡ sheet_length s
unfolding sheet_length
front_is s = refl

pub sheet_some : (s : List ℕ) → 0 < length s → 0 < sheet_length s
unfolding sheet_length
sheet_some s h = first_some s h

pub ruleset first_length = (joined_none, front_next, front_is, sheet_some)

pub sheets_first : (s : List ℕ) → 0 < length s → sheets_in s ≡ take (sheet_length s) s ∷ sheets_in (drop (sheet_length s) s)
unfolding sheet_length
sheets_first s h = sheets_next s h ∙ ap (λ (l : List ℕ). l ∷ sheets_in (drop (length (first_sheet s)) s)) (front_taken sheet_lines s)

-- how many there are
pub sheets_count : (s : List ℕ) → length (sheets_in s) ≡ (newlines s + unended s + (sheet_lines - 1)) / sheet_lines
unfolding sheets_in
sheets_count s =
    length-map (runs sheet_lines (split_lines s)) joined ∙ runs_count sheet_lines (split_lines s) (omega arith)
    ∙ ap (λ (n : ℕ). (n + (sheet_lines - 1)) / sheet_lines) (split_count s)

-- The pieces. The first of some bytes that others follow is a whole one.
module _ (s : List ℕ) where
  abbrev pub rest : List ℕ
  rest = drop (length (first_sheet s)) s

  pub first_then : s ≡ first_sheet s ++ rest
  first_then = sym (ap (λ (l : List ℕ). l ++ rest) (front_taken sheet_lines s) ∙ take-append-drop (length (first_sheet s)) s)

  pub lines_in_first : length (split_lines (first_sheet s)) ≡ min sheet_lines (length (split_lines s))
  lines_in_first = ap length (lines_of_front sheet_lines s) ∙ length-take sheet_lines (split_lines s)

  lines_in_rest : length (split_lines rest) ≡ length (split_lines s) - sheet_lines
  lines_in_rest = ap length (lines_behind_front sheet_lines s) ∙ length-drop sheet_lines (split_lines s)

  pub first_whole : 0 < length rest → WholeSheet (first_sheet s)
  first_whole h =
      let some = split_some rest h in
      let exact : length (split_lines (first_sheet s)) ≡ sheet_lines = omega (arith, lines_in_first, lines_in_rest, some) in
      record {
        lines = exact;
        ended =
            omega (
              arith,
              exact,
              some,
              lines_in_rest,
              split_count s,
              split_count (first_sheet s),
              split_count rest,
              ap newlines first_then,
              newlines-append (first_sheet s) rest,
              ap unended first_then,
              unended-append (first_sheet s) rest h,
            );
      }

one_piece : (p : List ℕ) → 0 < length p → length (split_lines p) ≤ sheet_lines → SheetsOf (p ∷ [])
unfolding SheetsOf
one_piece p h m = (h, m)

more_pieces : (p : List ℕ) (ps : List (List ℕ)) → WholeSheet p → 0 < length ps → SheetsOf ps → SheetsOf (p ∷ ps)
unfolding SheetsOf
more_pieces p [] w h g = absurd (omega arith)
more_pieces p (q ∷ ps) w h g = (w, g)

joined_more : (p : List ℕ) (ps : List (List ℕ)) → joined (p ∷ ps) ≡ p ++ joined ps
joined_more p ps = joined-append (p ∷ []) ps ∙ ap (λ (l : List ℕ). l ++ joined ps) (joined_one p)

piece_first : (t r : List ℕ) → 0 < length t → r ≡ drop (length (first_sheet t)) t → SheetsOf (sheets_in r) → SheetsOf (first_sheet t ∷ sheets_in r)
piece_first t [] some e g =
    subst (λ (ps : List (List ℕ)). SheetsOf (first_sheet t ∷ ps)) (sym sheets_none)
    (one_piece (first_sheet t) (first_some t some) (omega (arith, lines_in_first t)))
piece_first t (b ∷ r) some e g =
    more_pieces (first_sheet t) (sheets_in (b ∷ r)) (first_whole t (omega (arith, ap length e)))
    (omega (arith, ap length (sheets_next (b ∷ r) (omega arith)))) g

abbrev Pieces : List ℕ → Type 0
Pieces s = (joined (sheets_in s) ≡ s) × SheetsOf (sheets_in s)

no_pieces : (s : List ℕ) → length s ≡ 0 → Pieces s
unfolding SheetsOf
no_pieces [] h = (ap joined sheets_none ∙ joined_none, subst SheetsOf (sym sheets_none) tt)
no_pieces (b ∷ s) h = absurd (omega arith)

next_pieces : (s : List ℕ) → 0 < length s → Pieces (rest s) → Pieces s
next_pieces s some behind =
    let split = sheets_next s some in (
      ap joined split ∙ joined_more (first_sheet s) (sheets_in (rest s)) ∙ ap (λ (l : List ℕ). first_sheet s ++ l) behind.0 ∙ sym (first_then s),
      subst SheetsOf (sym split) (piece_first s (rest s) some refl behind.1),
    )

-- of at most n bytes
Pieces-of : (n : ℕ) (s : List ℕ) → length s ≤ n → Pieces s
Pieces-of zero s h = no_pieces s (omega arith)
Pieces-of (suc n) s h =
    by_test (ltb 0 (length s)) (λ b. Pieces s)
    (λ t.
    let some = ltb-true 0 (length s) t in
    next_pieces s some (Pieces-of n (rest s) (omega (arith, length-drop (length (first_sheet s)) s, first_some s some))))
    (λ f. no_pieces s (omega (arith, ltb-false 0 (length s) f)))

-- the pieces joined are the input
pub sheets_joined : (s : List ℕ) → joined (sheets_in s) ≡ s
sheets_joined s = (Pieces-of (length s) s (omega arith)).0

-- and they are such pieces
pub sheets_are : (s : List ℕ) → SheetsOf (sheets_in s)
sheets_are s = (Pieces-of (length s) s (omega arith)).1

-- A piece in front of other bytes is the first sheet, where it is whole, or nothing follows.
pub whole_first : (p t : List ℕ) → WholeSheet p → first_sheet (p ++ t) ≡ p
whole_first p t w =
    ap (λ (ls : List (List ℕ)). joined (take sheet_lines ls)) (split_append p t w.ended)
    ∙ ap joined (take_at (split_lines p) (split_lines t) sheet_lines w.lines) ∙ split_joined p

pub alone_first : (p : List ℕ) → length (split_lines p) ≤ sheet_lines → first_sheet p ≡ p
alone_first p h = ap joined (take_all sheet_lines (split_lines p) h) ∙ split_joined p

pub sheets_whole : (p t : List ℕ) → WholeSheet p → sheets_in (p ++ t) ≡ p ∷ sheets_in t
sheets_whole p t w =
    let f = whole_first p t w in
    sheets_next (p ++ t) (omega (arith, length-append p t, w.lines, split_most p))
    ∙ ap (λ (l : List ℕ). l ∷ sheets_in (drop (length l) (p ++ t))) f
    ∙ ap (λ (l : List ℕ). p ∷ sheets_in l) (drop-append_seam p t)

pub sheets_alone : (p : List ℕ) → 0 < length p → length (split_lines p) ≤ sheet_lines → sheets_in p ≡ p ∷ []
sheets_alone p some few =
    sheets_next p some ∙ ap (λ (l : List ℕ). l ∷ sheets_in (drop (length l) p)) (alone_first p few)
    ∙ ap (λ (l : List ℕ). p ∷ sheets_in l) (drop-length p) ∙ ap (λ (ps : List (List ℕ)). p ∷ ps) sheets_none

-- such pieces joined are split into just these
pub sheets_unique : (ps : List (List ℕ)) → SheetsOf ps → sheets_in (joined ps) ≡ ps
unfolding SheetsOf
sheets_unique [] h = ap sheets_in joined_none ∙ sheets_none
sheets_unique (p ∷ []) h = ap sheets_in (joined_one p) ∙ sheets_alone p h.0 h.1
sheets_unique (p ∷ q ∷ ps) h =
    ap sheets_in (joined_more p (q ∷ ps)) ∙ sheets_whole p (joined (q ∷ ps)) h.0 ∙ ap (λ (l : List (List ℕ)). p ∷ l) (sheets_unique (q ∷ ps) h.1)
