pub mod Promises
pub mod Kept
