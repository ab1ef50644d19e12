pub mod Resting
pub mod Rightly
pub mod Unheard
pub mod Runs
