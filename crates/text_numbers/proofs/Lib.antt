pub mod Marking
pub mod Packing
pub mod Cutting
pub mod WordSteps
