pub mod Entries
pub mod Spelled
pub mod Statements
pub mod Worked
