pub mod TargetQueryLaws
pub mod TargetLineLaws
