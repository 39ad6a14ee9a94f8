pub mod CoupleKinds
pub mod code
