pub mod CoupleLineLaws
