-- Finer workings are held by what is written.
use Prim.Native.Nat.{ℕ, ◌*◌}
use mathlib.Core.List.{List, ◌++◌}
use mathlib.Core.Path.{◌≡◌, refl, sym, subst}
use Rattle.section.specs.declared.Sheet.{Sheet}
use Rattle.section.specs.Sheets.{fineness}
use Rattle.section.specs.Working.{worked}
use Rattle.section.specs.Figures.{Printed, own_figures, WithinPrinted}
use Rattle.section.proofs.Laws.{fineness-Fine, finer_working_held}
use Rattle.lines.specs.Texts.{lines_text}
use Rattle.lines.proofs.Laws.{lines_join, reads_values}
use Rattle.certificate.specs.Keys.{sheet_fields, figure_fields, certificate_fields}
use Rattle.questions.specs.Reasons.{AllSo}
use Rattle.certificate.specs.Reasons.{lines_of_questions}
use Rattle.certificate.specs.Certificates.{sheet_values, figure_values, certificate_values, certificate_of, figures_shown}
use Rattle.certificate.specs.Promises.{Question1, lines_of_writing, HoldsFinerWorkings, own_lines, FinerWorkingsHeld}
use Rattle.certificate.proofs.Theorems.{so_is_allowed}
use Rattle.certificate.proofs.Shown.{sheet_back, figures_back, sheet_count, certificate_text_lem}
use Rattle.certificate.proofs.Written.{numbers_written, claims_are, sheet_written}

-- a certificate is its sheet's own lines, then the six of the working at its own scale
own_lines_then : (q : Sheet) → certificate_of q ≡ own_lines q ++ lines_text figure_fields (figure_values (own_figures q))
unfolding certificate_fields certificate_of certificate_values sheet_fields
own_lines_then q = lines_join sheet_fields figure_fields (sheet_values q) (figure_values (own_figures q)) (sheet_count q)

-- The third demand, entire.
module _ (q : Sheet) where
  held_by : AllSo (lines_of_questions q) → HoldsFinerWorkings q (own_lines q) (certificate_of q)
  unfolding certificate_values
  held_by h =
      let met = (so_is_allowed q).0 h in
      let sound = met.0 in
      let vs = certificate_values q in
      record {
        own_lines_first = own_lines_then q;
        shown = vs;
        read = (reads_values certificate_fields (certificate_of q) vs).1 (certificate_text_lem q sound);
        held =
            λ m one.
            let k = m * fineness q in
            let here = finer_working_held {n = fineness q} {m = m} q (fineness-Fine q sound.q2).some one sound met.1 in
            subst (λ (x : Sheet). WithinPrinted k (figures_shown vs) x.allow x.fyb x.gm0 (worked k q)) (sym (sheet_back q (figure_values (own_figures q))))
            (subst (λ (p : Printed). WithinPrinted k p q.allow q.fyb q.gm0 (worked k q)) (sym (figures_back q (own_figures q))) here);
      }

  module _ (room : ℕ) where
    -- of numbers that meet the questions, and of those that are written
    held_for_numbers : (c : List ℕ) → AllSo (lines_of_writing room q) → c ≡ certificate_of q → HoldsFinerWorkings q (own_lines q) c
    held_for_numbers c h e = subst (HoldsFinerWorkings q (own_lines q)) (sym e) (held_by ((claims_are q room).0 h).0)

    -- and of the bytes s that show them
    held_for_text : (s c : List ℕ) → Question1 s q → AllSo (lines_of_writing room q) → c ≡ certificate_of q → HoldsFinerWorkings q s c
    held_for_text s c g h e = subst (λ (l : List ℕ). HoldsFinerWorkings q l c) (sym g.text.text) (held_for_numbers c h e)

pub finer_workings_held : FinerWorkingsHeld
finer_workings_held = record {
  of_text =
      λ s q room g h. record {
        certificate = certificate_of q;
        written = (sheet_written s room (certificate_of q)).1 (record { sheet = q; question1 = g; questions = h; text = refl });
        holds = held_for_text q room s (certificate_of q) g h refl;
      };
  of_numbers =
      λ q room h. record {
        certificate = certificate_of q;
        written = (numbers_written q room (certificate_of q)).1 (h, refl);
        holds = held_for_numbers q room (certificate_of q) h refl;
      };
  text_written =
      λ s room c e.
      let w = (sheet_written s room c).0 e in
      record { sheet = w.sheet; question1 = w.question1; questions = w.questions; holds = held_for_text w.sheet room s c w.question1 w.questions w.text };
  numbers_written = λ q room c e. let w = (numbers_written q room c).0 e in (w.0, held_for_numbers q room c w.0 w.1);
}
