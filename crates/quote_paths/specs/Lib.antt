pub mod Path
pub mod Values
pub mod code
pub mod examples
