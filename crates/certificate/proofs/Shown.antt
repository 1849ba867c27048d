-- A sheet, its figures, and the lines that show them: each is had back from the other.
use Prim.Native.Nat.{ℕ, ◌≤◌}
use mathlib.Core.List.{List, ◌++◌, map}
use mathlib.Core.Logic.{⊎_elim}
use mathlib.Core.Path.{◌≡◌, refl, sym, ap, ◌∙◌, subst}
use native.Mathlib.Omega.{arith}
use lib.IntN.{ℤ, pos, nat_abs}
use lib.ListN.{length, get_or, take, drop, take-append-drop, length-map}
use Rattle.std.proofs.lemmas.List.{get_or-take, take-map}
use Rattle.std.proofs.lemmas.Simd.{map-map}
use Rattle.section.specs.declared.Sheet.{Sheet}
use Rattle.section.specs.Sheets.{sheet_lines, sheet_of, values_of}
use Rattle.section.specs.Sound.{Question2, Sound}
use Rattle.section.specs.Figures.{Printed, own_figures}
use Rattle.section.proofs.Laws.{FiguresBelow, figures_have_ten_digits, same_values, values_of_sheet}
use Rattle.lines.specs.Texts.{SpeltIn, longest, TextOf}
use Rattle.lines.proofs.Laws.{letter_spelt, number_spelt, signed_spelt, spelt_none, Spelt-more, spelt_join, spelt_count, spelt_parts, numbers_above, text_at_most}
use Rattle.certificate.specs.Keys.{sheet_fields, figure_fields, certificate_fields}
use Rattle.certificate.specs.Certificates.{sheet_values, figure_values, certificate_values, certificate_of, sheet_shown, figures_shown}

-- the first lines alone show the same sheet
pub front_shown : (vs : List ℤ) → sheet_shown (take sheet_lines vs) ≡ sheet_shown vs
unfolding sheet_shown
front_shown vs =
    same_values (map nat_abs (take sheet_lines vs)) (map nat_abs vs)
    (λ i h. ap (λ (l : List ℕ). get_or l i 0) (sym (take-map nat_abs sheet_lines vs)) ∙ get_or-take sheet_lines (map nat_abs vs) i 0 h)

-- the lines of a sheet, whatever comes behind, show that sheet
module _ (q : Sheet) where
  pub sheet_back : (vs : List ℤ) → sheet_shown (sheet_values q ++ vs) ≡ q
  unfolding sheet_shown sheet_values sheet_of values_of
  sheet_back vs = refl

  pub figures_back : (p : Printed) → figures_shown (sheet_values q ++ figure_values p) ≡ p
  unfolding figures_shown figure_values sheet_values values_of
  figures_back p = refl

  pub sheet_count : length (sheet_values q) ≡ sheet_lines
  unfolding sheet_values values_of
  sheet_count = refl

  pub behind_sheet : (vs : List ℤ) → drop sheet_lines (sheet_values q ++ vs) ≡ vs
  unfolding sheet_values values_of
  behind_sheet vs = refl

  pub sheet_alone : sheet_shown (sheet_values q) ≡ q
  unfolding sheet_shown sheet_values sheet_of values_of
  sheet_alone = refl

pub figure_count : (p : Printed) → length (figure_values p) ≡ 6
unfolding figure_values
figure_count p = refl

-- and a sheet's lines, as they can be spelt, are those of the sheet that they show
pub values_back : (vs : List ℤ) → length vs ≡ sheet_lines → SpeltIn sheet_fields vs → sheet_values (sheet_shown vs) ≡ vs
unfolding sheet_values sheet_shown sheet_fields
values_back vs n h =
    ap (map pos) (values_of_sheet (map nat_abs vs) (omega (arith, n, length-map vs nat_abs))) ∙ map-map pos nat_abs vs ∙ numbers_above sheet_fields vs refl h

-- so the lines of a certificate are those of its sheet, and then the six behind them
pub split_at_sheet : (vs : List ℤ) → SpeltIn certificate_fields vs → vs ≡ sheet_values (sheet_shown vs) ++ drop sheet_lines vs
unfolding certificate_fields sheet_fields
split_at_sheet vs h =
    let front = (spelt_parts sheet_fields figure_fields vs h).0 in
    sym (take-append-drop sheet_lines vs)
    ∙ ap (λ (l : List ℤ). l ++ drop sheet_lines vs)
    (sym (values_back (take sheet_lines vs) (spelt_count sheet_fields (take sheet_lines vs) front) front) ∙ ap sheet_values (front_shown vs))

-- a sheet's values can stand in their lines where they are in range
pub sheet_spelt : (q : Sheet) → Question2 q → SpeltIn sheet_fields (sheet_values q)
unfolding sheet_values values_of sheet_fields
sheet_spelt q h =
    Spelt-more _ _ _ _ (letter_spelt _ _ _ q.form refl (omega arith) (omega (arith, h.form.1)))
    (Spelt-more _ _ _ _ (number_spelt _ q.h refl (omega (arith, h.h.1)))
    (Spelt-more _ _ _ _ (number_spelt _ q.b1 refl (omega (arith, h.b1.1)))
    (Spelt-more _ _ _ _ (number_spelt _ q.b2 refl (omega (arith, h.b2.1)))
    (Spelt-more _ _ _ _ (number_spelt _ q.c refl (omega (arith, h.c.1)))
    (Spelt-more _ _ _ _ (number_spelt _ q.r refl (omega (arith, h.r.1)))
    (Spelt-more _ _ _ _ (number_spelt _ q.tnom.0 refl (omega (arith, h.tnom.1)))
    (Spelt-more _ _ _ _ (number_spelt _ q.t.0 refl (omega (arith, h.t.1)))
    (Spelt-more _ _ _ _ (number_spelt _ q.fyb refl (omega (arith, h.fyb.1)))
    (Spelt-more _ _ _ _ (number_spelt _ q.gm0 refl (omega (arith, h.gm0.1)))
    (Spelt-more _ _ _ _ (number_spelt _ q.rounds refl (omega (arith, h.rounds.1)))
    (Spelt-more _ _ _ _ (number_spelt _ q.allow refl (omega (arith, h.allow.1)))
    (Spelt-more _ _ _ _ (number_spelt _ q.fine refl (⊎_elim (λ e. omega (arith, e)) (λ e. omega (arith, e)) h.fine))
    spelt_none))))))))))))

-- and figures of at most ten digits in theirs
pub figures_spelt : (p : Printed) → FiguresBelow 10000000000 p → SpeltIn figure_fields (figure_values p)
unfolding figure_values figure_fields
figures_spelt p h =
    Spelt-more _ _ _ _ (number_spelt _ p.area refl h.area)
    (Spelt-more _ _ _ _ (number_spelt _ p.axial refl h.axial)
    (Spelt-more _ _ _ _ (number_spelt _ p.chi1 refl h.chi1)
    (Spelt-more _ _ _ _ (number_spelt _ p.chi2 refl h.chi2)
    (Spelt-more _ _ _ _ (signed_spelt _ p.shiftlo refl h.shiftlo)
    (Spelt-more _ _ _ _ (signed_spelt _ p.shifthi refl h.shifthi)
    spelt_none)))))

-- the text of a certificate
pub certificate_text_lem : (q : Sheet) → Sound q → TextOf certificate_fields (certificate_values q) (certificate_of q)
unfolding certificate_fields certificate_of certificate_values
certificate_text_lem q s =
    let p = own_figures q in
    record {
      spelt = spelt_join sheet_fields figure_fields (sheet_values q) (figure_values p) (sheet_spelt q s.q2) (figures_spelt p (figures_have_ten_digits q s));
      text = refl;
    }

-- which is no longer than the longest
pub length_most : (q : Sheet) → Sound q → length (certificate_of q) ≤ longest certificate_fields
length_most q s =
    let t = certificate_text_lem q s in
    subst (λ (l : List ℕ). length l ≤ longest certificate_fields) (sym t.text) (text_at_most certificate_fields (certificate_values q) t.spelt)
