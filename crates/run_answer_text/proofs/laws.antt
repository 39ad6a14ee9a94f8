pub mod Lengths
pub mod LineLaws
pub mod SizeLaws
