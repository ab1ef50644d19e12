pub mod Notes
pub mod Recorded
pub mod Worked
