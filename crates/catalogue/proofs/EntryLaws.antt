-- Sheets one more: their counts, the lines of the accepted ones, and whether all meet the first question.
use Rattle.std.specs.Prelude.{Result, Ok, Err}
use Prim.Native.Nat.{ℕ, zero, suc, ◌+◌, ◌≤◌, ◌<◌}
use mathlib.Core.Bool.{true, false, cond}
use mathlib.Core.List.{List, [], ◌∷◌, ◌++◌, append_assoc, append-nil, map, map-append}
use mathlib.Core.Logic.{◌⊎◌, inl, inr, ⊎_elim}
use mathlib.Core.Path.{◌≡◌, refl, sym, ap, ◌∙◌}
use native.Mathlib.Nat.{zero-add}
use native.Mathlib.Omega.{arith}
use borrow.Author.Tests.{eqb-true, eqb-false}
use Rattle.std.specs.List.{range_with_len}
use Rattle.std.proofs.lemmas.Grind.{get_or-set_at}
use Rattle.std.proofs.lemmas.List.{get_or-set_other}
use Rattle.std.proofs.lemmas.List.FromFn.{length-map-range_with_len, get_or-map-range_with_len, fill_by_all}
use lib.Dec.{eqb}
use lib.ListN.{length, get_or, set, length-set, length-append}
use Rattle.pair.proofs.Numbers.{by_test}
use Rattle.questions.specs.Claims.{test}
use Rattle.questions.specs.Asking.{asked_from, first_of}
use Rattle.questions.specs.Outcomes.{Outcome, refused, written, answer_of}
use Rattle.questions.proofs.Laws.{Holds-test, fails_test, asked_fails, asked_passes, none_asked}
use Rattle.lines.specs.Texts.{longest}
use Rattle.certificate.specs.declared.Refusal.{Refusal}
use Rattle.certificate.specs.Keys.{certificate_fields}
use Rattle.certificate.specs.Refusals.{refusal_answer}
use Rattle.certificate.proofs.Laws.{bad_outcome, right_outcome, refused_as_judged, shown_as_judged, up_to_eleven, written_as_judged}
use Rattle.certificate.specs.Certificates.{certificate_of, figures_in, sheet_in}
use Rattle.certificate.specs.Questions.{verdict, verdict_of}
use Rattle.section.specs.declared.Sheet.{Sheet}
use Rattle.section.specs.declared.Figures.{Figures}
use Rattle.catalogue.specs.declared.ReportRefusal.{ReportRefusal}
use Rattle.catalogue.specs.declared.ReportRefusal.TheVariants.{Misspelt}
use Rattle.catalogue.specs.declared.judging.Row.{Row}
use Rattle.catalogue.specs.Catalogues.{certified, number_of, counted, rows_at, rows_from}
use Rattle.catalogue.specs.Outcome.{spelt}
use Rattle.catalogue.specs.Forms.{row_of, number_answered, rows_entered, rows_of, numbers_of, counts_of}

-- One sheet. Its number is the one that is judged, and at most 11; its line is the one that is entered.
number_judged : (place : ℕ) (o : Outcome Refusal) → number_answered (row_of place o) ≡ (answer_of refusal_answer o).refusal
unfolding row_of
number_judged place (refused r) = refl
number_judged place (written c) = refl

pub number_is : (place : ℕ) (p : List ℕ) → number_answered (row_of place (certified p)) ≡ number_of p
unfolding number_of
number_is place p = number_judged place (certified p)

pub number_most : (p : List ℕ) → number_of p ≤ 11
unfolding number_of certified
number_most p = up_to_eleven p (longest certificate_fields) (omega arith)

-- What the code judges of a sheet.
module _ (s : List ℕ) (place : ℕ) where
  pub judged_bad : {r : Refusal} → sheet_in s ≡ Err r → row_of place (certified s) ≡ Err r
  unfolding row_of certified
  judged_bad {r} e = ap (row_of place) (bad_outcome s (longest certificate_fields) r e)

  module _ {q : Sheet} (e : sheet_in s ≡ Ok q) where
    pub judged_refused : {r : Refusal} → verdict_of (verdict q) ≡ Err r → row_of place (certified s) ≡ Err r
    unfolding row_of certified
    judged_refused {r} v = ap (row_of place) (right_outcome s (longest certificate_fields) q e ∙ refused_as_judged q (longest certificate_fields) v)

    pub judged_row : {f : Figures} → verdict_of (verdict q) ≡ Ok f → row_of place (certified s) ≡ Ok (record { place = place; area = f.area; axial = f.axial })
    unfolding row_of certified
    judged_row {f} v =
        let L = longest certificate_fields in
        let shown = shown_as_judged q L v in
        ap (row_of place) (right_outcome s L q e ∙ written_as_judged q L v (omega arith))
        ∙ ap {B = Result Row Refusal} (λ (n : ℕ). Ok (record { place = place; area = n; axial = (figures_in (certificate_of q)).axial })) (sym shown.0)
        ∙ ap {B = Result Row Refusal} (λ (n : ℕ). Ok (record { place = place; area = f.area; axial = n })) (sym shown.1)

pub ruleset judging = (judged_bad, judged_refused, judged_row)

row_numbers : (place : ℕ) (o : Outcome Refusal) → map numbers_of (rows_entered (row_of place o)) ≡ rows_at place o
unfolding rows_at row_of
row_numbers place (refused r) = refl
row_numbers place (written c) = refl

-- How many sheets are answered with a number.
pub counted_more : (ps : List (List ℕ)) (p : List ℕ) (k : ℕ) → counted (ps ++ (p ∷ [])) k ≡ counted ps k + cond (eqb (number_of p) k) 1 0
unfolding counted
counted_more [] p k = omega arith
counted_more (q ∷ ps) p k = omega (arith, counted_more ps p k)

pub counted_most : (ps : List (List ℕ)) (k : ℕ) → counted ps k ≤ length ps
unfolding counted
counted_most [] k = omega arith
counted_most (p ∷ ps) k =
    by_test (eqb (number_of p) k) (λ b. cond b 1 0 + counted ps k ≤ suc (length ps))
    (λ e. omega (arith, counted_most ps k))
    (λ e. omega (arith, counted_most ps k))

-- The counts of sheets, and of one sheet more.
counts_are : (ps : List (List ℕ)) → counts_of ps ≡ map (counted ps) (range_with_len 0 12)
unfolding counts_of
counts_are ps = refl

module _ (ps : List (List ℕ)) where
  pub count_at : (i : ℕ) → i ≤ 11 → get_or (counts_of ps) i 0 ≡ counted ps i
  count_at i h = ap (λ (l : List ℕ). get_or l i 0) (counts_are ps) ∙ get_or-map-range_with_len (counted ps) 0 12 i i 0 (omega arith) (zero-add i)

  counts_length : length (counts_of ps) ≡ 12
  counts_length = ap length (counts_are ps) ∙ length-map-range_with_len (counted ps) 0 12

  -- one more under the number of p, and the others as before
  count_next : (p : List ℕ) (k : ℕ) → k < 12 → get_or (set (counts_of ps) (number_of p) (get_or (counts_of ps) (number_of p) 0 + 1)) k 0 ≡ counted (ps ++ (p ∷ [])) k
  count_next p k h =
      let n = number_of p in
      let cs = counts_of ps in
      by_test (eqb n k) (λ b. get_or (set cs n (get_or cs n 0 + 1)) k 0 ≡ counted ps k + cond b 1 0)
      (λ e.
      let same = eqb-true n k e in
      get_or-set_at cs n k (get_or cs n 0 + 1) 0 (sym same) (omega (arith, counts_length, number_most p))
      ∙ omega (arith, count_at n (number_most p), ap (counted ps) same))
      (λ e. get_or-set_other cs n k (get_or cs n 0 + 1) 0 (λ same. eqb-false n k e (sym same)) ∙ count_at k (omega arith) ∙ omega arith)
      ∙ sym (counted_more ps p k)

  pub counts_next : (p : List ℕ) → set (counts_of ps) (number_of p) (get_or (counts_of ps) (number_of p) 0 + 1) ≡ counts_of (ps ++ (p ∷ []))
  counts_next p =
      fill_by_all (counted (ps ++ (p ∷ []))) _ 12 0 (length-set (counts_of ps) (number_of p) _ ∙ counts_length) (count_next p) ∙ sym (counts_are (ps ++ (p ∷ [])))

-- The lines of the accepted sheets, and of one sheet more.
pub rows_more : (place : ℕ) (ps : List (List ℕ)) (p : List ℕ) → rows_of place (ps ++ (p ∷ [])) ≡ rows_of place ps ++ rows_entered (row_of (place + length ps) (certified p))
unfolding rows_of
rows_more place [] p = append-nil (rows_entered (row_of place (certified p))) ∙ ap (λ (k : ℕ). rows_entered (row_of k (certified p))) (sym (omega arith))
rows_more place (q ∷ ps) p =
    let next : place + 1 + length ps ≡ place + suc (length ps) = omega arith in
    ap (λ (l : List Row). rows_entered (row_of place (certified q)) ++ l)
    (rows_more (place + 1) ps p ∙ ap (λ (k : ℕ). rows_of (place + 1) ps ++ rows_entered (row_of k (certified p))) next)
    ∙ sym (append_assoc (rows_entered (row_of place (certified q))) (rows_of (place + 1) ps) (rows_entered (row_of (place + suc (length ps)) (certified p))))

-- their numbers are the report's
pub rows_numbers : (place : ℕ) (ps : List (List ℕ)) → map numbers_of (rows_of place ps) ≡ rows_from place ps
unfolding rows_of rows_from
rows_numbers place [] = refl
rows_numbers place (p ∷ ps) =
    map-append numbers_of (rows_entered (row_of place (certified p))) (rows_of (place + 1) ps)
    ∙ ap (λ (l : List (List ℕ)). l ++ map numbers_of (rows_of (place + 1) ps)) (row_numbers place (certified p))
    ∙ ap (λ (l : List (List ℕ)). rows_at place (certified p) ++ l) (rows_numbers (place + 1) ps)

row_most : (r : Result Row Refusal) → length (rows_entered r) ≤ 1
row_most (Ok r) = omega arith
row_most (Err r) = omega arith

pub rows_most : (place : ℕ) (ps : List (List ℕ)) → length (rows_of place ps) ≤ length ps
unfolding rows_of
rows_most place [] = omega arith
rows_most place (p ∷ ps) =
    omega (
      arith,
      length-append (rows_entered (row_of place (certified p))) (rows_of (place + 1) ps),
      row_most (row_of place (certified p)),
      rows_most (place + 1) ps,
    )

-- Whether sheets meet the first question.
pub spelt_holds : (n : ℕ) → (n ≡ 1 → ⊥) → (n ≡ 0) ⊎ (2 ≤ n)
spelt_holds zero other = inl refl
spelt_holds (suc zero) other = absurd (other refl)
spelt_holds (suc (suc n)) other = inr (omega arith)

spelt-test : (p : List ℕ) → (number_of p ≡ 1 → ⊥) → test (spelt p) ≡ true
spelt-test p n = Holds-test (spelt p) (spelt_holds (number_of p) n)

unspelt_test : (p : List ℕ) → number_of p ≡ 1 → test (spelt p) ≡ false
unspelt_test p e = fails_test (spelt p) (⊎_elim (λ z. omega (arith, e, z)) (λ m. omega (arith, e, m)))

-- what is found of sheets, the first being at this place
abbrev pub found : ℕ → List (List ℕ) → Result Unit ReportRefusal
found place ps = first_of (asked_from Misspelt place (map spelt ps))

pub none_found : (place : ℕ) → found place [] ≡ Ok tt
none_found place = none_asked Misspelt place

-- the first sheet fails, or passes on to those behind
module _ (place : ℕ) {ps qs : List (List ℕ)} {p : List ℕ} (e : ps ≡ p ∷ qs) where
  pub fails_here : number_of p ≡ 1 → found place ps ≡ Err (Misspelt place)
  fails_here n = asked_fails Misspelt place (ap (map spelt) e) (unspelt_test p n)

  pub passes_here : (number_of p ≡ 1 → ⊥) → found place ps ≡ found (place + 1) qs
  passes_here n = asked_passes Misspelt place (ap (map spelt) e) (spelt-test p n)
