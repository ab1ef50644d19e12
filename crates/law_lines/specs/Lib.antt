pub mod Laws
pub mod Ranges
pub mod Reading
pub mod Statements
pub mod Runs
pub mod Worked
