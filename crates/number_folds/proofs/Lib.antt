pub mod Running
pub mod examples
pub mod laws
