-- Input cut behind the bytes that a full catalogue can have: the first sheet that fails the first question is the same.
use Rattle.std.specs.Prelude.{Err}
use Prim.Native.Nat.{ℕ, zero, suc, ◌+◌, ◌-◌, ◌*◌, ◌≤◌, ◌<◌}
use mathlib.Core.List.{List, [], ◌∷◌, ◌++◌}
use mathlib.Core.Path.{◌≡◌, sym, ap, ◌∙◌}
use native.Mathlib.Omega.{arith}
use borrow.Author.Tests.{leb-true, leb-false, eqb-true, eqb-false}
use lib.Dec.{leb, eqb}
use lib.ListN.{length, get_or, take, drop, length-append, length-take, take-append-drop}
use native.Mathlib.Nat.{suc-mul}
use lib.Seq.{take_all, take-append-le, take-append-add}
use Rattle.pair.proofs.Numbers.{by_test}
use Rattle.questions.specs.Outcomes.{answer_of}
use Rattle.lines.specs.Splitting.{split_lines, joined}
use Rattle.lines.specs.Texts.{longest}
use Rattle.lines.proofs.Laws.{split_count, split_front, split_most}
use Rattle.section.specs.Sheets.{sheet_lines}
use Rattle.certificate.specs.Keys.{sheet_fields, certificate_fields}
use Rattle.certificate.specs.Refusals.{refusal_answer}
use Rattle.certificate.proofs.Laws.{cut_sheet, meets_first, sheet_ended, sheet_lines_lem, sheet_most}
use Rattle.catalogue.specs.declared.ReportRefusal.{ReportRefusal}
use Rattle.catalogue.specs.declared.ReportRefusal.TheVariants.{Misspelt}
use Rattle.catalogue.specs.Catalogues.{most_sheets, sheets_in, certified, number_of}
use Rattle.catalogue.specs.Outcome.{question15, outcome_on, report_outcome}
use Rattle.catalogue.specs.Promises.{WholeSheet, SheetsOf, AllSpelt}
use Rattle.catalogue.proofs.SheetLaws.{first_sheet, rest, first_then, lines_in_first, first_whole, whole_first, alone_first, sheets_next, sheets_whole, sheets_count, sheets_unique}
use Rattle.catalogue.proofs.EntryLaws.{found, fails_here, passes_here, none_found}
use Rattle.catalogue.proofs.Spellings.{none_misspelt}
use Rattle.catalogue.proofs.OutcomeLaws.{outcome_15}

abbrev most_bytes : ℕ
most_bytes = longest sheet_fields

-- a sheet that meets the first question has its lines, each with its newline, and no more bytes than the longest
module _ (p : List ℕ) (right : number_of p ≡ 1 → ⊥) where
  right_whole : WholeSheet p
  unfolding number_of certified
  right_whole =
      let q = (meets_first p (longest certificate_fields)).0 right in
      record { lines = sheet_lines_lem p q.0 q.1; ended = sheet_ended p q.0 q.1 }

  right_most : length p ≤ most_bytes
  unfolding number_of certified
  right_most = let q = (meets_first p (longest certificate_fields)).0 right in sheet_most p q.0 q.1

-- sheets that meet it, joined end to end, are split into just these
whole_pieces : (ps : List (List ℕ)) → ((i : ℕ) → i < length ps → number_of (get_or ps i []) ≡ 1 → ⊥) → SheetsOf ps
unfolding SheetsOf
whole_pieces [] h = tt
whole_pieces (p ∷ []) h = let w = right_whole p (h 0 (omega arith)) in (omega (arith, w.lines, split_most p), omega (arith, w.lines))
whole_pieces (p ∷ q ∷ ps) h = (right_whole p (h 0 (omega arith)), whole_pieces (q ∷ ps) (λ i inside. h (suc i) (omega arith)))

pub sheets_of_spelt : (ps : List (List ℕ)) → AllSpelt ps → sheets_in (joined ps) ≡ ps
sheets_of_spelt ps s = sheets_unique ps (whole_pieces ps (none_misspelt ps s))

-- a cut sheet has the same number
cut_number : (p : List ℕ) (m : ℕ) → most_bytes < m → number_of (take m p) ≡ number_of p
unfolding number_of certified
cut_number p m h = ap (λ o. (answer_of refusal_answer o).refusal) (cut_sheet p m (longest certificate_fields) h)

-- bytes cut behind their first part
cut_behind_first : (p t : List ℕ) {s : List ℕ} (m : ℕ) → length p ≤ m → s ≡ p ++ t → take m s ≡ p ++ take (m - length p) t
cut_behind_first p t m h e =
    let split : m ≡ length p + (m - length p) = omega arith in
    ap (take m) e ∙ ap (λ (k : ℕ). take k (p ++ t)) split ∙ take-append-add p t (m - length p)

-- Bytes cut at m, where that cuts something off.
module _ (s : List ℕ) (m : ℕ) (longer : m < length s) where
  -- the first sheet is the first sheet of all, cut, which has no more lines
  first_lines : length (split_lines (take m (first_sheet s))) ≤ sheet_lines
  first_lines =
      let p = first_sheet s in
      omega (arith, split_front (take m p) (drop m p), ap (λ (l : List ℕ). length (split_lines l)) (take-append-drop m p), lines_in_first s)

  within_first : m ≤ length (first_sheet s) → first_sheet (take m s) ≡ take m (first_sheet s)
  within_first h =
      let p = first_sheet s in
      let same : take m s ≡ take m p = ap (take m) (first_then s) ∙ take-append-le m p (rest s) h in
      ap first_sheet same ∙ alone_first (take m p) first_lines

  behind_first : length (first_sheet s) < m → first_sheet (take m s) ≡ take m (first_sheet s)
  behind_first h =
      let p = first_sheet s in
      let some : 0 < length (rest s) = omega (arith, longer, ap length (first_then s), length-append p (rest s)) in
      let same : take m s ≡ p ++ take (m - length p) (rest s) = cut_behind_first p (rest s) m (omega arith) (first_then s) in
      ap first_sheet same ∙ whole_first p (take (m - length p) (rest s)) (first_whole s some) ∙ sym (take_all m p (omega arith))

  cut_first : first_sheet (take m s) ≡ take m (first_sheet s)
  cut_first =
      by_test (leb m (length (first_sheet s))) (λ b. first_sheet (take m s) ≡ take m (first_sheet s))
      (λ t. within_first (leb-true m (length (first_sheet s)) t))
      (λ f. behind_first (leb-false m (length (first_sheet s)) f))

-- What is found of cut bytes is what is found of all, unless nothing is cut off.
pub data Alike (place : ℕ) (s : List ℕ) (m : ℕ) : Type 0 where
  uncut : take m s ≡ s → Alike place s m
  stopped : (r : ReportRefusal) → found place (sheets_in (take m s)) ≡ Err r → found place (sheets_in s) ≡ Err r → Alike place s m

module _ (place : ℕ) (s : List ℕ) (m : ℕ) (longer : m < length s) (enough : most_bytes < m) where
  some_bytes : 0 < length s
  some_bytes = omega arith

  some_kept : 0 < length (take m s)
  some_kept = omega (arith, length-take m s)

  -- the first sheet fails
  stopped_first : number_of (first_sheet s) ≡ 1 → Alike place s m
  stopped_first e =
      let cut : number_of (first_sheet (take m s)) ≡ 1 = ap number_of (cut_first s m longer) ∙ cut_number (first_sheet s) m enough ∙ e in
      stopped (Misspelt place) (fails_here place (sheets_next (take m s) some_kept) cut) (fails_here place (sheets_next s some_bytes) e)

  -- or what is found is found behind it
  module _ (right : number_of (first_sheet s) ≡ 1 → ⊥) where
    abbrev n : ℕ
    n = length (first_sheet s)

    split : take m s ≡ first_sheet s ++ take (m - n) (rest s)
    split = cut_behind_first (first_sheet s) (rest s) m (omega (arith, right_most (first_sheet s) right)) (first_then s)

    first_kept : sheets_in (take m s) ≡ first_sheet s ∷ sheets_in (take (m - n) (rest s))
    first_kept = ap sheets_in split ∙ sheets_whole (first_sheet s) (take (m - n) (rest s)) (right_whole (first_sheet s) right)

    found_behind : Alike (place + 1) (rest s) (m - n) → Alike place s m
    found_behind (uncut e) = uncut (split ∙ ap (λ (l : List ℕ). first_sheet s ++ l) e ∙ sym (first_then s))
    found_behind (stopped r e f) = stopped r (passes_here place first_kept right ∙ e) (passes_here place (sheets_next s some_bytes) right ∙ f)

-- of at most k sheets, cut behind more bytes than so many can have
pub alike : (k place : ℕ) (s : List ℕ) (m : ℕ) → length (sheets_in s) ≤ k → k * most_bytes < m → Alike place s m
alike zero place s m few enough =
    by_test (leb (length s) m) (λ b. Alike place s m)
    (λ t. uncut (take_all m s (leb-true (length s) m t)))
    (λ f. absurd (omega (arith, few, ap length (sheets_next s (omega (arith, leb-false (length s) m f))))))
alike (suc k) place s m few enough =
    by_test (leb (length s) m) (λ b. Alike place s m)
    (λ t. uncut (take_all m s (leb-true (length s) m t)))
    (λ f.
    let longer = leb-false (length s) m f in
    let more : most_bytes + k * most_bytes < m = omega (arith, enough, suc-mul k most_bytes) in
    by_test (eqb (number_of (first_sheet s)) 1) (λ b. Alike place s m)
    (λ t. stopped_first place s m longer (omega arith) (eqb-true (number_of (first_sheet s)) 1 t))
    (λ g.
    let right = eqb-false (number_of (first_sheet s)) 1 g in
    found_behind place s m longer (omega arith) right
    (alike k (place + 1) (rest s) (m - length (first_sheet s))
    (omega (arith, few, ap length (sheets_next s (omega arith))))
    (omega (arith, right_most (first_sheet s) right)))))

-- no more sheets than in all
cut_fewer : (s : List ℕ) (m : ℕ) → length (sheets_in (take m s)) ≤ length (sheets_in s)
cut_fewer s m =
    omega (
      arith,
      sheets_count s,
      sheets_count (take m s),
      split_count s,
      split_count (take m s),
      split_front (take m s) (drop m s),
      ap (λ (l : List ℕ). length (split_lines l)) (take-append-drop m s),
    )

-- sheets of which one is refused are there
some_found : (ps : List (List ℕ)) (r : ReportRefusal) → found 1 ps ≡ Err r → 1 ≤ length ps
some_found [] r e = let w = sym e ∙ none_found 1 in cc
some_found (p ∷ ps) r e = omega arith

-- So the answer stays where the sheets are not too many.
pub cut_catalogue : (s : List ℕ) (m room : ℕ) → length (sheets_in s) ≤ most_sheets → most_sheets * longest sheet_fields < m
    → report_outcome (take m s) room ≡ report_outcome s room
unfolding report_outcome question15
cut_catalogue s m room few enough = by_alike (alike most_sheets 1 s m few enough)
  where
    by_alike : Alike 1 s m → outcome_on (sheets_in (take m s)) room ≡ outcome_on (sheets_in s) room
    by_alike (uncut e) = ap (λ (l : List ℕ). outcome_on (sheets_in l) room) e
    by_alike (stopped r e f) =
        outcome_15 (sheets_in (take m s)) room (record { some = some_found (sheets_in (take m s)) r e; few = omega (arith, few, cut_fewer s m) }) e
        ∙ sym (outcome_15 (sheets_in s) room (record { some = some_found (sheets_in s) r f; few = few }) f)
