-- What crates above may cite of what is printed.
pub use Rattle.report.proofs.Answers.{refused_prints, text_printed, refusal_printed}
pub use Rattle.report.proofs.Promises.{for_input, printed_for, within}
