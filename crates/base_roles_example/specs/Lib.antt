pub mod Caller
pub mod Forgetting
pub mod Trials
