pub mod TargetLine
pub mod code
pub mod laws
pub mod examples
