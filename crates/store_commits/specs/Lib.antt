pub mod Commits
pub mod Held
