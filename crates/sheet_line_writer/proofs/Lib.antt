pub mod Small
pub mod Four
pub mod Line
