pub mod Catalogues
pub mod Refusals
pub mod Outcome
pub mod Promises
pub mod Forms
