pub mod CoupleQueryLaws
