-- The loop over the sheets of a catalogue: what holds where some of them are entered, and what one sheet more changes.
use Rattle.std.specs.Prelude.{Result, Ok, Err}
use Prim.Native.Nat.{ℕ, ◌+◌, ◌≤◌, ◌<◌}
use mathlib.Core.List.{List, [], ◌∷◌, ◌++◌}
use mathlib.Core.Path.{◌≡◌, refl, sym, ap, ◌∙◌}
use native.Mathlib.Omega.{arith}
use lib.ListN.{length, get_or, take, drop, set, replicate, length-take, length-drop}
use lib.Seq.{take-add, take_all, drop-drop}
use Rattle.questions.specs.Asking.{first_of}
use Rattle.certificate.specs.declared.Refusal.{Refusal}
use Rattle.catalogue.specs.declared.ReportRefusal.TheVariants.{Misspelt}
use Rattle.catalogue.specs.declared.judging.Row.{Row}
use Rattle.catalogue.specs.Catalogues.{most_sheets, sheets_in, certified, number_of, counted}
use Rattle.catalogue.specs.Outcome.{question15}
use Rattle.catalogue.specs.Forms.{sheet_length, row_of, number_answered, rows_entered, rows_of, counts_of}
use Rattle.catalogue.proofs.SheetLaws.{sheets_none, sheets_first}
use Rattle.catalogue.proofs.EntryLaws.{number_is, number_most, counted_most, count_at, counts_next, rows_more, rows_most, found, none_found, fails_here, passes_here}

-- `place` sheets of s are entered, and these bytes are left
pub record Begun (s rest : List ℕ) (place : ℕ) (counts : List ℕ) (rows : List Row) : Type 0 where
  pub left : sheets_in rest ≡ drop place (sheets_in s)
  pub finds : first_of (question15 (sheets_in s)) ≡ found (1 + place) (drop place (sheets_in s))
  pub counted_so : counts ≡ counts_of (take place (sheets_in s))
  pub entered : rows ≡ rows_of 1 (take place (sheets_in s))

pub Begun-none : (s counts : List ℕ) (rows : List Row) → counts ≡ replicate 12 0 → rows ≡ [] → Begun s s 0 counts rows
unfolding question15 counts_of counted rows_of
Begun-none s counts rows e h = record { left = refl; finds = refl; counted_so = e; entered = h }

-- all sheets are entered
module _ {s rest : List ℕ} {place : ℕ} {counts : List ℕ} {rows : List Row} (h : Begun s rest place counts rows) (done : rest ≡ []) where
  none_left : drop place (sheets_in s) ≡ []
  none_left = sym h.left ∙ ap sheets_in done ∙ sheets_none

  all_taken : take place (sheets_in s) ≡ sheets_in s
  all_taken = take_all place (sheets_in s) (omega (arith, ap length none_left, length-drop place (sheets_in s)))

  pub all_spelt_right : first_of (question15 (sheets_in s)) ≡ Ok tt
  all_spelt_right = h.finds ∙ ap (found (1 + place)) none_left ∙ none_found (1 + place)

  pub all_counted_so : counts ≡ counts_of (sheets_in s)
  all_counted_so = h.counted_so ∙ ap counts_of all_taken

  pub all_rows : rows ≡ rows_of 1 (sheets_in s)
  all_rows = h.entered ∙ ap (rows_of 1) all_taken

-- One sheet more, and what is judged of it.
module _ {s rest : List ℕ} {place : ℕ} {counts : List ℕ} {rows : List Row} (h : Begun s rest place counts rows) (more : 0 < length rest) where
  abbrev P : List (List ℕ)
  P = sheets_in s

  abbrev p : List ℕ
  p = take (sheet_length rest) rest

  abbrev then_left : List ℕ
  then_left = drop (sheet_length rest) rest

  next_sheet : drop place P ≡ p ∷ sheets_in then_left
  next_sheet = sym h.left ∙ sheets_first rest more

  place_below : place < length P
  place_below = omega (arith, ap length next_sheet, length-drop place P)

  taken : take (place + 1) P ≡ take place P ++ (p ∷ [])
  taken = take-add place 1 P ∙ ap (λ (l : List (List ℕ)). take place P ++ take 1 l) next_sheet

  behind : sheets_in then_left ≡ drop (place + 1) P
  behind = sym (ap (drop 1) next_sheet) ∙ drop-drop 1 place P

  before : length (take place P) ≡ place
  before = omega (arith, length-take place P, place_below)

  pub row_room : length P ≤ most_sheets → length rows < most_sheets
  row_room few = omega (arith, ap length h.entered, rows_most 1 (take place P), before, place_below)

  module _ {judged : Result Row Refusal} (e : judged ≡ row_of (place + 1) (certified p)) where
    number : number_answered judged ≡ number_of p
    number = ap number_answered e ∙ number_is (place + 1) p

    -- its number is one that is counted, and there is room for its row
    pub number_below : number_answered judged < 12
    number_below = omega (arith, number, number_most p)

    pub count_below : length P ≤ most_sheets → get_or counts (number_answered judged) 0 < most_sheets
    count_below few =
        omega (
          arith,
          ap (λ (l : List ℕ). get_or l (number_answered judged) 0) h.counted_so,
          count_at (take place P) (number_answered judged) (omega (arith, number_below)),
          counted_most (take place P) (number_answered judged),
          before,
          place_below,
        )

    -- it fails the first question
    pub stopped : number_answered judged ≡ 1 → first_of (question15 P) ≡ Err (Misspelt (place + 1))
    stopped one =
        h.finds
        ∙ fails_here (1 + place) next_sheet (sym number ∙ one)
        ∙ ap (λ (n : ℕ). Err (Misspelt n)) (omega arith)

    -- or it is entered
    pub entered_next : (number_answered judged ≡ 1 → ⊥) → {counts' : List ℕ} {rows' : List Row}
        → counts' ≡ set counts (number_answered judged) (get_or counts (number_answered judged) 0 + 1) → rows' ≡ rows ++ rows_entered judged
        → Begun s then_left (place + 1) counts' rows'
    entered_next other ec er = record {
      left = behind;
      finds =
          h.finds
          ∙ passes_here (1 + place) next_sheet (λ one. other (number ∙ one))
          ∙ ap (found (1 + place + 1)) behind
          ∙ ap (λ (n : ℕ). found n (drop (place + 1) P)) (omega arith);
      counted_so =
          ec ∙ ap (λ (n : ℕ). set counts n (get_or counts n 0 + 1)) number
          ∙ ap (λ (l : List ℕ). set l (number_of p) (get_or l (number_of p) 0 + 1)) h.counted_so
          ∙ counts_next (take place P) p ∙ ap counts_of (sym taken);
      entered =
          let k : 1 + length (take place P) ≡ place + 1 = omega (arith, before) in
          er ∙ ap (λ (j : Result Row Refusal). rows ++ rows_entered j) e
          ∙ ap (λ (l : List Row). l ++ rows_entered (row_of (place + 1) (certified p))) h.entered
          ∙ ap (λ (n : ℕ). rows_of 1 (take place P) ++ rows_entered (row_of n (certified p))) (sym k)
          ∙ sym (rows_more 1 (take place P) p) ∙ ap (rows_of 1) (sym taken);
    }
