pub mod Text
pub mod Number
pub mod code
pub mod laws
pub mod examples
