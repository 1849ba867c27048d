pub mod Claims
pub mod Answers
pub mod Asking
pub mod Reasons
pub mod Buffers
pub mod Outcomes
