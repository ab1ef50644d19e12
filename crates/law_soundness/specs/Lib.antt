pub mod Causes
pub mod Going
pub mod Kept
pub mod Ranges
pub mod StepLaws
