pub mod Drawing
pub mod Input
pub mod Lines
pub mod Reading
pub mod Worked
pub mod Writing
