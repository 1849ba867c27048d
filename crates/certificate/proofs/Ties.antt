-- Each question asks the claims that the paper lists, and each refusal tells the line that the paper names.
use Prim.Native.Nat.{ℕ, ◌+◌}
use mathlib.Core.Path.{◌≡◌, refl, ap, ◌∙◌}
use mathlib.Core.Logic.{◌↔◌}
use mathlib.Core.List.{List, [], ◌∷◌, ◌++◌}
use native.Mathlib.Omega.{arith}
use lib.IntN.{ℤ}
use lib.ListN.{length, drop, length-drop}
use Rattle.section.specs.declared.Sheet.{Sheet}
use Rattle.questions.specs.Claims.{◌is◌, pairwise}
use Rattle.section.specs.Sheets.{sheet_lines, in_ranges, values_of}
use Rattle.section.specs.Sound.{Question2}
use Rattle.section.specs.Figures.{own_figures}
use Rattle.certificate.specs.Keys.{certificate_lines}
use Rattle.questions.specs.Asking.{Asked}
use Rattle.certificate.specs.declared.Refusal.{Refusal}
use Rattle.certificate.specs.declared.Refusal.TheVariants.{Range, Figure}
use Rattle.certificate.specs.Refusals.{refusal_answer}
use Rattle.certificate.specs.Questions.{question2, question11, on_numbers, questions}
use Rattle.questions.specs.Reasons.{Lined, lined_from, So}
use Rattle.certificate.specs.Reasons.{lines_on_numbers, lines11, lines_of_questions}
use Rattle.certificate.specs.Certificates.{figure_values, certificate_of, agreeing}
use Rattle.questions.specs.Outcomes.{fitting}
use Rattle.certificate.specs.Outcome.{question12, question13, writing, checking}
use Rattle.certificate.specs.Promises.{lines12, lines13, lines_of_writing, lines_of_checking}
use Rattle.questions.proofs.Laws.{Told, ToldFrom, Told-lines}
use Rattle.certificate.proofs.Shown.{figure_count}

-- the claims of the second question are what section's theorems ask of the ranges
pub So-in_range : (q : Sheet) → So (lined_from 1 (in_ranges q)) ↔ Question2 q
unfolding lined_from in_ranges pairwise values_of
So-in_range q = (
  λ so.
      let behind_r = so.1.1.1.1.1.1 in
      record {
        form = so.0;
        h = so.1.0;
        b1 = so.1.1.0;
        b2 = so.1.1.1.0;
        c = so.1.1.1.1.0;
        r = so.1.1.1.1.1.0;
        tnom = behind_r.0;
        t = behind_r.1.0;
        fyb = behind_r.1.1.0;
        gm0 = behind_r.1.1.1.0;
        rounds = behind_r.1.1.1.1.0;
        allow = behind_r.1.1.1.1.1.0;
        fine = behind_r.1.1.1.1.1.1.0;
      },
  λ p.
      (p.form, (p.h, (p.b1, (p.b2, (p.c, (p.r, (p.tnom, (p.t, (p.fyb, (p.gm0, (p.rounds, (p.allow, (p.fine, tt))))))))))))),
)

module _ (q : Sheet) where
  -- what each refusal tells
  module _ (needed : ℕ) where
    told_before : (qs : List (List (Asked Refusal))) (ls : List (List Lined)) → ToldFrom refusal_answer needed 11 qs ls → ToldFrom refusal_answer needed 2 (on_numbers q ++ qs) (lines_on_numbers q ++ ls)
    unfolding on_numbers lines_on_numbers question2
    told_before qs ls t = (
      Told-lines refusal_answer needed 2 Range (λ l. refl) 1 (in_ranges q),
      (
        (refl, refl, tt),
        (
          (refl, refl, (refl, refl, tt)),
          (
            (refl, refl, tt),
            (
              (refl, refl, tt),
              (
                (refl, refl, (refl, refl, tt)),
                ((refl, refl, tt), ((refl, refl, (refl, refl, tt)), ((refl, refl, tt), t))),
              ),
            ),
          ),
        ),
      ),
    )

    pub on_numbers_told : ToldFrom refusal_answer needed 2 (on_numbers q) (lines_on_numbers q)
    unfolding on_numbers lines_on_numbers
    on_numbers_told = told_before [] [] tt

    told_then : (qs : List (List (Asked Refusal))) (ls : List (List Lined)) → ToldFrom refusal_answer needed 12 qs ls → ToldFrom refusal_answer needed 2 (questions q ++ qs) (lines_of_questions q ++ ls)
    unfolding questions on_numbers lines_of_questions lines_on_numbers lines11 question11
    told_then qs ls t = told_before (question11 q ∷ qs) (lines11 q ∷ ls) ((refl, refl, tt), t)

    pub questions_told : ToldFrom refusal_answer needed 2 (questions q) (lines_of_questions q)
    unfolding questions lines_of_questions lines11 question11
    questions_told = told_before (question11 q ∷ []) (lines11 q ∷ []) ((refl, refl, tt), tt)

  pub writing_told : (room : ℕ) → ToldFrom refusal_answer (length (certificate_of q)) 2 (writing room q) (lines_of_writing room q)
  unfolding writing lines_of_writing lines12 question12 fitting
  writing_told room = told_then (length (certificate_of q)) (question12 room q ∷ []) (lines12 room q ∷ []) ((refl, refl, tt), tt)

-- two lists are the same exactly where all that they claim place by place is so
same_claims : (line : ℕ) (vs ws : List ℤ) → length vs ≡ length ws → So (lined_from line (pairwise ◌is◌ vs ws)) ↔ (vs ≡ ws)
unfolding lined_from pairwise
same_claims line [] [] n = (λ h. refl, λ h. tt)
same_claims line [] (w ∷ ws) n = absurd (omega arith)
same_claims line (v ∷ vs) [] n = absurd (omega arith)
same_claims line (v ∷ vs) (w ∷ ws) n =
    let r = same_claims (line + 1) vs ws (omega (arith, n)) in
    (λ h. ap (λ (x : ℤ). x ∷ vs) h.0 ∙ ap (λ (l : List ℤ). w ∷ l) (r.0 h.1), λ h. (cc, r.1 cc))

module _ (vs : List ℤ) (q : Sheet) (n : length vs ≡ certificate_lines) where
  told13 : Told refusal_answer 0 13 (question13 vs q) (lines13 vs q)
  unfolding question13 lines13
  told13 = Told-lines refusal_answer 0 13 Figure (λ l. refl) (sheet_lines + 1) (agreeing vs q)

  pub checking_told : ToldFrom refusal_answer 0 2 (checking vs q) (lines_of_checking vs q)
  unfolding checking lines_of_checking
  checking_told = told_then q 0 ([] ∷ question13 vs q ∷ []) ([] ∷ lines13 vs q ∷ []) (tt, (told13, tt))

  -- the lines behind the sheet's agree one by one exactly where they are the figures' lines
  pub figures_agree : So (lines13 vs q) ↔ (drop sheet_lines vs ≡ figure_values (own_figures q))
  unfolding lines13 agreeing
  figures_agree =
      same_claims (sheet_lines + 1) (drop sheet_lines vs) (figure_values (own_figures q)) (omega (arith, n, length-drop sheet_lines vs, figure_count (own_figures q)))
