pub mod Generated
pub mod Summary
pub mod Trial
pub mod Trying
