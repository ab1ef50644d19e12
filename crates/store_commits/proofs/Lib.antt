pub mod Committing
pub mod Ranges
