pub mod VerdictRun
pub mod code
