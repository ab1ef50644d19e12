pub mod Deciding
pub mod Kept
pub mod Restored
pub mod Restoring
pub mod Resumed
