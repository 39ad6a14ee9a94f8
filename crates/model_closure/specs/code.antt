pub mod Table
pub mod Totals
pub mod Code
