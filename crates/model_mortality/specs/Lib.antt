pub mod Cell
pub mod Exact
