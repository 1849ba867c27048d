pub mod Tables
pub mod Forms
pub mod Outcome
pub mod Promises
