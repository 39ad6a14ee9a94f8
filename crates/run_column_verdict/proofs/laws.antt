pub mod ColumnTheorem
pub mod VerdictLaws
