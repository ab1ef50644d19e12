pub mod Line
pub mod Questions
pub mod Words
pub mod Worked
