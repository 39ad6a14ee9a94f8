pub mod RunLaws
pub mod YearLaws
