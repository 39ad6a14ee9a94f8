pub mod CoupleLaws
