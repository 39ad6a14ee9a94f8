pub mod Sheet
pub mod code
