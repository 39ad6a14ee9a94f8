pub mod AfterLines
pub mod CutLaws
pub mod LineLaws
