pub mod CallLaws
pub mod Theorem
