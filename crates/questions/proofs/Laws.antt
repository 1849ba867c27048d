-- What crates above may cite of questions, reasons and answers, and the cases of a test.
pub use Rattle.pair.proofs.Numbers.{by_test}
pub use Rattle.questions.proofs.Tests.{Holds-test, fails_test, test-Holds}
pub use Rattle.questions.proofs.Order.{asked_fails, asked_passes, found_in_turn, in_turn, line_fails, line_passes, lines_pass, none_asked, pairwise-map, then_nothing}
pub use Rattle.questions.proofs.FirstNos.{All, Told, ToldFrom, All-So, All-when_met, found_with_reason, met_when_all, met_when_so, no_when_refused, refused_when_no, Told-lines}
pub use Rattle.questions.proofs.FirstNos.{NoAmong, All-asked, each_asked, no_among, no_asked}
pub use Rattle.questions.proofs.FirstNos.{fails, fails_by, first_passes, first_refuses, next, none_left, passes, passes_by}
pub use Rattle.questions.proofs.Answered.{answers_refusal, answers_text, asked_last, buffer_refused, buffer_written, fits, found_answered, if_met-written, if_unmet_refused, length_refused, length_written, met_not_refused, too_long, written_not_refused}
