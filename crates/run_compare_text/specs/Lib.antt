pub mod CompareText
pub mod code
pub mod laws
