-- What crates above may cite of lines.
pub use Rattle.questions.proofs.Laws.{by_test}
pub use Rattle.lines.proofs.LentParts.{length-over, length_snoc, over_all, over_front, over_nothing, over-set}
pub use Rattle.lines.proofs.DecimalLaws.{above_text, decimal-length, fixed_length, integer_most, length_between, std_decimal, std_integer}
pub use Rattle.lines.proofs.LineLaws.{line_most, lines_join, number_line_lem}
pub use Rattle.lines.proofs.SpeltLaws.{letter_spelt, number_spelt, signed_spelt}
pub use Rattle.lines.proofs.SpeltLaws.{spelt_count, spelt_join, Spelt-more, spelt_none, spelt_parts}
pub use Rattle.lines.proofs.SpeltLaws.{all_unsigned, longest_join, numbers_above, text_at_most, unsigned}
pub use Rattle.lines.proofs.ReadFound.{begins_text, line_shorter}
pub use Rattle.lines.proofs.ReadBack.{begins_back, line_word, spelt_words}
pub use Rattle.lines.proofs.ReadTables.{by_reading, cut_behind, reads_bad, reads_values, text_tells_values}
pub use Rattle.lines.proofs.ReadLoop.{Begun, none_read}
pub use Rattle.lines.proofs.SplitLaws.{end_behind, end_here, end_more}
pub use Rattle.lines.proofs.SplitLaws.{split_count, split_joined, split_lines_lem, split_next, split_none, split_short, split_some, split_unique, split_whole}
pub use Rattle.lines.proofs.CountLaws.{newlines-append, newlines_most, unended-append, unended_last, unended_most, unended_none}
pub use Rattle.lines.proofs.CountLaws.{split_append, split_front, split_most}
pub use Rattle.lines.proofs.FirstLines.{front, front_next, front_taken, lines_behind_front, lines_of_front}
pub use Rattle.lines.proofs.WholeLines.{all_unbroken, letters_of, text_ended, text_newlines, unbroken}
pub use Rattle.lines.proofs.RunLaws.{joined-append, joined_none, joined_one, runs_are, runs_count, runs-joined, runs_next, runs_none, runs-one, runs_unique}
pub use Rattle.lines.proofs.RunLaws.{row_most, row_size, row_sizes_append, rows_as_texts, rows_join, rows_length}
pub use Rattle.lines.proofs.FixedLaws.{FixedText, fixed_back, fixed_found}
pub use Rattle.lines.proofs.Fitted.{buffer_as_told, refused_as_told, written_as_told}
