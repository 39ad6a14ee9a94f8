pub mod BoundLaws
pub mod Finer
pub mod HoldsLaws
pub mod RangeLaws
pub mod WidthLaws
pub mod YearLaws
