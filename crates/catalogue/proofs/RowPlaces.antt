-- The lines of the accepted sheets by their places.
use Prim.Native.Nat.{ℕ, zero, suc, ◌+◌, ◌-◌, ◌≤◌, ◌<◌}
use mathlib.Core.List.{List, [], ◌∷◌, ◌++◌, append-nil}
use mathlib.Core.Path.{◌≡◌, refl, ap, ◌∙◌}
use native.Mathlib.Omega.{arith}
use borrow.Author.Tests.{eq-eqb, ne_eqb}
use lib.ListN.{length, get_or}
use Rattle.questions.specs.Outcomes.{Outcome, refused, written}
use Rattle.certificate.specs.declared.Refusal.{Refusal}
use Rattle.catalogue.specs.Catalogues.{certified, rows_at, rows_from}
use Rattle.catalogue.specs.Promises.{sheet_at, AtPlace, lines_at}

-- One sheet's line, before others: it is found at its own place, and at no other.
module _ (k place : ℕ) (rows : List (List ℕ)) where
  found_here : (o : Outcome Refusal) → k ≡ place → lines_at place (rows_at k o ++ rows) ≡ rows_at place o ++ lines_at place rows
  unfolding lines_at rows_at
  found_here (refused r) e = refl
  found_here (written c) e = rw (eq-eqb k place e, e)

  not_here : (o : Outcome Refusal) → (k ≡ place → ⊥) → lines_at place (rows_at k o ++ rows) ≡ lines_at place rows
  unfolding lines_at rows_at
  not_here (refused r) n = refl
  not_here (written c) n = rw (ne_eqb k place n)

-- All lines, the first sheet being at place k: none is found where no sheet is, and sheet i's own where it is.
not_found : (k place : ℕ) (ps : List (List ℕ)) → (k ≤ place → place < k + length ps → ⊥) → lines_at place (rows_from k ps) ≡ []
unfolding lines_at rows_from
not_found k place [] n = refl
not_found k place (p ∷ ps) n =
    not_here k place (rows_from (k + 1) ps) (certified p) (λ e. n (omega arith) (omega arith))
    ∙ not_found (k + 1) place ps (λ h g. n (omega arith) (omega arith))

found : (k place i : ℕ) (ps : List (List ℕ)) → k + i ≡ place → i < length ps → lines_at place (rows_from k ps) ≡ rows_at place (certified (get_or ps i []))
unfolding rows_from
found k place i [] e h = absurd (omega arith)
found k place zero (p ∷ ps) e h =
    found_here k place (rows_from (k + 1) ps) (certified p) (omega arith)
    ∙ ap (λ (l : List (List ℕ)). rows_at place (certified p) ++ l) (not_found (k + 1) place ps (λ g l. omega arith))
    ∙ append-nil (rows_at place (certified p))
found k place (suc i) (p ∷ ps) e h =
    not_here k place (rows_from (k + 1) ps) (certified p) (λ g. omega arith) ∙ found (k + 1) place i ps (omega arith) (omega arith)

-- A place has its sheet's line, once, and no line has another place.
pub each_once : (ps : List (List ℕ)) (place : ℕ) → AtPlace ps place → lines_at place (rows_from 1 ps) ≡ rows_at place (certified (sheet_at ps place))
each_once ps place h = found 1 place (place - 1) ps (omega (arith, h.0)) (omega (arith, h.0, h.1))

pub no_other : (ps : List (List ℕ)) (place : ℕ) → (AtPlace ps place → ⊥) → lines_at place (rows_from 1 ps) ≡ []
no_other ps place n = not_found 1 place ps (λ h g. n (h, omega arith))
