pub mod Ages
pub mod SetLines
