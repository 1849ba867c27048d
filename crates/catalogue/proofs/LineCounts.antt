-- Counting lines part by part, and the sheets that they make.
use Prim.Native.Nat.{ℕ, zero, suc, ◌+◌, ◌≤◌, ◌<◌, min}
use mathlib.Core.Bool.{Bool, true, false, cond}
use mathlib.Core.List.{List, [], ◌∷◌, ◌++◌, append-nil}
use mathlib.Core.Path.{◌≡◌, refl, sym, ap, ◌∙◌}
use native.Mathlib.Omega.{arith}
use borrow.Author.Tests.{eqb-true, eqb-false, leb-true, leb-false}
use lib.Dec.{eqb, leb}
use Rattle.std.specs.Int.{from_bool}
use lib.ListN.{length}
use Rattle.pair.proofs.Numbers.{by_test}
use Rattle.lines.specs.Splitting.{newlines, unended}
use Rattle.lines.proofs.Laws.{newlines-append, unended_none, unended-append, unended_most}
use Rattle.catalogue.specs.declared.counting.LineCount.{LineCount}
use Rattle.catalogue.specs.Catalogues.{most_sheets, sheets_in}
use Rattle.catalogue.specs.Forms.{newlines_enough, line_count, counted_on, sheets_counted}
use Rattle.catalogue.proofs.SheetLaws.{sheets_count}

-- a count as the code holds it
abbrev counting : ℕ → Bool → LineCount
counting n u = record { newlines = n; unended = u }

pub none_counted : counting 0 false ≡ line_count []
unfolding line_count
none_counted =
    let none : newlines [] ≡ 0 = omega (arith, newlines-append [] []) in
    sym (ap (λ (n : ℕ). counting (min n newlines_enough) (eqb (unended []) 1)) none ∙ ap (λ (n : ℕ). counting 0 (eqb n 1)) unended_none)

-- A part more behind the bytes s.
module _ (s part : List ℕ) where
  newlines_on : min (min (newlines s) newlines_enough + newlines part) newlines_enough ≡ min (newlines (s ++ part)) newlines_enough
  newlines_on = omega (arith, newlines-append s part)

  unended_on : (l : List ℕ) → part ≡ l → length l ≡ 0 → unended (s ++ part) ≡ unended s
  unended_on [] e h = ap (λ (l : List ℕ). unended (s ++ l)) e ∙ ap unended (append-nil s)
  unended_on (b ∷ l) e h = absurd (omega arith)

  -- it is empty, or it has bytes
  unended_then : cond (eqb (length part) 0) (eqb (unended s) 1) (eqb (unended part) 1) ≡ eqb (unended (s ++ part)) 1
  unended_then =
      by_test (eqb (length part) 0) (λ b. cond b (eqb (unended s) 1) (eqb (unended part) 1) ≡ eqb (unended (s ++ part)) 1)
      (λ e. ap (λ (u : ℕ). eqb u 1) (sym (unended_on part refl (eqb-true (length part) 0 e))))
      (λ e. ap (λ (u : ℕ). eqb u 1) (sym (unended-append s part (omega (arith, eqb-false (length part) 0 e)))))

  pub counted_behind : (c : LineCount) → c ≡ line_count s → counted_on c part ≡ line_count (s ++ part)
  unfolding line_count counted_on
  counted_behind c e =
      ap (λ (x : LineCount). counted_on x part) e
      ∙ ap (λ (n : ℕ). counting n (cond (eqb (length part) 0) (eqb (unended s) 1) (eqb (unended part) 1))) newlines_on
      ∙ ap (counting (min (newlines (s ++ part)) newlines_enough)) unended_then

-- as the code counts it
module _ (c : LineCount) (part : List ℕ) {n : ℕ} (e : n ≡ min (c.newlines + newlines part) newlines_enough) where
  pub counted_empty : eqb (length part) 0 ≡ true → counting n c.unended ≡ counted_on c part
  unfolding counted_on
  counted_empty h = ap (λ (k : ℕ). counting k c.unended) e ∙ rw h

  pub counted_some : eqb (length part) 0 ≡ false → {u : Bool} → u ≡ eqb (unended part) 1 → counting n u ≡ counted_on c part
  unfolding counted_on
  counted_some h {u} g = ap (λ (k : ℕ). counting k u) e ∙ ap (counting (min (c.newlines + newlines part) newlines_enough)) g ∙ rw h

-- The sheets that are counted: exact where there are not too many.
rest_counted : (u : ℕ) → u ≤ 1 → cond (eqb u 1) 1 0 ≡ u
rest_counted zero h = refl
rest_counted (suc zero) h = refl
rest_counted (suc (suc u)) h = absurd (omega arith)

module _ (s : List ℕ) where
  abbrev counted_sheets : ℕ
  counted_sheets = sheets_counted (line_count s)

  pub counted_exactly : counted_sheets ≤ most_sheets → counted_sheets ≡ length (sheets_in s)
  unfolding sheets_counted line_count
  counted_exactly h = omega (arith, sheets_count s, rest_counted (unended s) (unended_most s))

  pub counted_over : most_sheets < counted_sheets → most_sheets < length (sheets_in s)
  unfolding sheets_counted line_count
  counted_over h = omega (arith, sheets_count s, rest_counted (unended s) (unended_most s))

  -- sheets that are countable are counted as such
  pub counted_within : 1 ≤ length (sheets_in s) → length (sheets_in s) ≤ most_sheets → (1 ≤ counted_sheets) × (counted_sheets ≤ most_sheets)
  counted_within some few =
      by_test (leb counted_sheets most_sheets) (λ b. (1 ≤ counted_sheets) × (counted_sheets ≤ most_sheets))
      (λ t. let h = leb-true counted_sheets most_sheets t in (omega (arith, counted_exactly h, some), h))
      (λ f. absurd (omega (arith, counted_over (leb-false counted_sheets most_sheets f), few)))

-- 1 for a line that is not ended
pub byte_is : (b : Bool) → from_bool b ≡ cond b 1 0
byte_is true = refl
byte_is false = refl
