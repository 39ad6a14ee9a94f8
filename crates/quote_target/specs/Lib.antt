pub mod Target
