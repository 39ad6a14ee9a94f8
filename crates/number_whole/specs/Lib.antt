pub mod Listed
pub mod Parts
pub mod Division
pub mod SignedEnds
pub mod code
pub mod examples
