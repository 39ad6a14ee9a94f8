pub mod Annuity
pub mod Exact
pub mod examples
