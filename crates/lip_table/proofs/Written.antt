-- The table in a buffer b: it is written where there is room; else 12 is answered with the length needed, and b is as it was.
use Prim.Native.Nat.{ℕ, ◌≤◌, ◌<◌}
use mathlib.Core.List.{List}
use mathlib.Core.Path.{◌≡◌, sym, ap, ◌∙◌}
use native.Mathlib.Omega.{arith}
use lib.ListN.{length}
use Rattle.questions.specs.Buffers.{over}
use Rattle.questions.specs.Answers.{answer, answered}
use Rattle.questions.specs.Outcomes.{refused, written, answer_in, buffer_in}
use Rattle.questions.proofs.Laws.{fits, too_long, length_refused, length_written, buffer_refused, buffer_written}
use Rattle.lines.proofs.Laws.{over_all}
use Rattle.lip_table.specs.declared.LipRefusal.TheVariants.{Room}
use Rattle.lip_table.specs.Tables.{table_text, table_length}
use Rattle.lip_table.specs.Outcome.{lip_answer, table_outcome}
use Rattle.lip_table.proofs.TableTexts.{table_length_lem}

module _ (b : List ℕ) where
  pub table_fits : table_length ≤ length b → table_outcome (length b) ≡ written table_text
  unfolding table_outcome
  table_fits h = fits Room (length b) table_text (omega (arith, table_length_lem))

  pub table_too_long : length b < table_length → table_outcome (length b) ≡ refused (Room table_length)
  unfolding table_outcome
  table_too_long h = too_long Room (length b) table_text (omega (arith, table_length_lem)) ∙ ap (λ (n : ℕ). refused (Room n)) table_length_lem

  pub table_written : table_length ≤ length b → (answer 0 0 table_length ≡ answer_in lip_answer table_outcome b) × (over table_text b ≡ buffer_in table_outcome b)
  table_written h = let o = table_fits h in (ap (answer 0 0) (sym table_length_lem) ∙ sym (ap (answered lip_answer) (length_written o)), sym (buffer_written b o))

  pub table_refused : length b < table_length → (answer 12 0 table_length ≡ answer_in lip_answer table_outcome b) × (b ≡ buffer_in table_outcome b)
  table_refused h = let o = table_too_long h in (sym (ap (answered lip_answer) (length_refused o)), sym (buffer_refused b o))

  -- a buffer of just that room holds the table
  pub table_fills : length b ≡ table_length → buffer_in table_outcome b ≡ table_text
  table_fills e = sym (table_written (omega arith)).1 ∙ over_all table_text b (omega (arith, table_length_lem))
