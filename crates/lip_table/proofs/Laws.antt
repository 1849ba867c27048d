-- What crates above may cite of the table.
pub use Rattle.lip_table.proofs.Written.{table_fills}
