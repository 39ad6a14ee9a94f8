pub mod ColumnVerdict
