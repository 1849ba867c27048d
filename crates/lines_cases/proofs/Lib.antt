pub mod TableLengths
