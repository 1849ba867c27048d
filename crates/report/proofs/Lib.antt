pub mod Answers
pub mod Promises
pub mod Laws
