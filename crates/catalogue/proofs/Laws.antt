-- What crates above may cite of reports on catalogues.
pub use Rattle.catalogue.proofs.Promises.{cut_catalogue, sheets_count}
pub use Rattle.catalogue.proofs.LineCounts.{counted_behind, counted_exactly, counted_over}
pub use Rattle.catalogue.proofs.OutcomeLaws.{too_many_refused}
