pub mod LaneLaws
pub mod WordLaws
pub mod ShortTextLaws
