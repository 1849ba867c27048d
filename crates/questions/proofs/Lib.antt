pub mod Tests
pub mod Order
pub mod FirstNos
pub mod Answered
pub mod Laws
