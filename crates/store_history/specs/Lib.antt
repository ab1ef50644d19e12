pub mod Answers
pub mod Commits
pub mod Held
pub mod History
pub mod Opened
pub mod Worked
