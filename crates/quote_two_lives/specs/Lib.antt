pub mod TwoLives
pub mod Exact
