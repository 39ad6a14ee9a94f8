pub mod Verdict
pub mod code
pub mod examples
