pub mod Erasing
pub mod Heard
pub mod Items
pub mod Kept
pub mod Marks
