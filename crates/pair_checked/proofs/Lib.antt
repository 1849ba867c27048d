pub mod Deciding
