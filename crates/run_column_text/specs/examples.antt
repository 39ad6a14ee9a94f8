pub mod Rows
pub mod ColumnRows
