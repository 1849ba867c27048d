mod Formula
pub mod Tested
