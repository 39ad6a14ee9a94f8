pub mod Cell
pub mod laws
