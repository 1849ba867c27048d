use mathlib.Core.Path.{sym, ap, ◌∙◌}
use native.Mathlib.Omega.{arith}
use lib.ListN.{length}
use Rattle.std.proofs.lemmas.Grind.{common_steps}
use Rattle.questions.proofs.Laws.{length_refused, buffer_refused}
use Rattle.lines.proofs.Laws.{buffer_as_told, refused_as_told, written_as_told}
use Rattle.lip_table.specs.declared.LipRefusal.TheVariants.{Room}
use Rattle.lip_table.specs.Outcome.{table_outcome}
use Rattle.lip_table.specs.Tables.{table_text}
use Rattle.lip_table.proofs.TableTexts.{table_length_lem, text_of_entries}
use Rattle.lip_table.proofs.Written.{table_too_long}
use Rattle.lip_table.proofs.tables.put.Goals as goal

pub returns-then-buffer-lt-TABLE_LENGTH : goal.returns-then-buffer-lt-TABLE_LENGTH
returns-then-buffer-lt-TABLE_LENGTH c =
    let b = c.args.buffer.now in
    let short = table_too_long b (omega (arith, c.if-buffer-lt-TABLE_LENGTH.true)) in
    record { value = sym (length_refused short); buffer_after = sym (buffer_refused b short) }

pub write_fitted-requires : goal.write_fitted-requires
write_fitted-requires c = omega (arith, table_length_lem, ap length (text_of_entries c.table.ensures))

pub returns-in_err-write_fitted : goal.returns-in_err-write_fitted
unfolding table_outcome
returns-in_err-write_fitted c =
    let b = c.args.buffer.now in
    let w = rw (text_of_entries c.table.ensures) at c.write_fitted.ensures in
    let told = refused_as_told Room table_text b (sym w.value ∙ c.in_err-write_fitted.was) in
    record { value = grind (arith, common_steps, told); buffer_after = w.buffer_after ∙ buffer_as_told Room table_text b }

pub returns : goal.returns
unfolding table_outcome
returns c =
    let b = c.args.buffer.now in
    let w = rw (text_of_entries c.table.ensures) at c.write_fitted.ensures in
    record {
      value = sym (written_as_told Room table_text b (sym w.value ∙ c.in_ok-write_fitted.was));
      buffer_after = w.buffer_after ∙ buffer_as_told Room table_text b;
    }
