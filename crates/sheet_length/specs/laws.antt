pub mod PartsLaws
pub mod Held
