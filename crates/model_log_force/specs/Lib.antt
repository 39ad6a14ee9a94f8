pub mod LogForce
pub mod Exact
pub mod code
pub mod examples
