-- What is promised of writing and checking, in one place.
pub use Rattle.certificate.proofs.Written.{numbers_written, numbers_refused, numbers_as_text, sheet_written, sheet_refused, FirstBad-line}
pub use Rattle.certificate.proofs.Checked.{check_refused, passes_when_issued}
pub use Rattle.certificate.proofs.Rooms.{numbers_length, sheet_length, room_for_numbers, room_for_text, cut_sheet, cut_certificate}
pub use Rattle.certificate.proofs.FinerWorkings.{finer_workings_held}
pub use Rattle.certificate.proofs.MoreRounds.{never_upward}
