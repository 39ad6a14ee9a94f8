pub mod Joined
pub mod AgeText
