-- What crates above may cite of writing and checking.
pub use Rattle.certificate.proofs.Promises.{cut_certificate, cut_sheet, passes_when_issued, sheet_length}
pub use Rattle.certificate.proofs.OutcomeSteps.{bad_outcome, right_outcome}
pub use Rattle.certificate.proofs.Certified.{sheet_ended, sheet_lines_lem, sheet_most}
pub use Rattle.certificate.proofs.Certified.{fails_first, meets_first, refused_as_judged, shown_as_judged, shown_below, up_to_eleven, written_as_judged}
pub use Rattle.certificate.proofs.Lengths.{longest_sheet, longest_certificate}
