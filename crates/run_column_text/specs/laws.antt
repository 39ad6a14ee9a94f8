pub mod QLaws
pub mod QText
pub mod RowLaws
pub mod ColumnLaws
pub mod AnyOrder
pub mod OrderLaws
