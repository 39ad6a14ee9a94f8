pub mod BoundLaws
pub mod Finer
pub mod Mixed
pub mod SeriesLaws
pub mod WidthLaws
