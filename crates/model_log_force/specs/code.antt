pub mod Year
pub mod Within
