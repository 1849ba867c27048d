pub mod Places
pub mod TableTexts
pub mod Written
pub mod Told
pub mod Promises
pub mod Laws
