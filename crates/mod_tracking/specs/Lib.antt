pub mod Tracking
pub mod Stating
pub mod Worked
