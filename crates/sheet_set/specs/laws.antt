pub mod LinesLaws
pub mod RunLaws
pub mod SetLaws
