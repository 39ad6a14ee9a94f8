pub mod EdgeLaws
