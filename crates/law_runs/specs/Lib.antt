pub mod Going
pub mod Moments
pub mod Payees
pub mod Paying
pub mod Readers
pub mod RunLaws
pub mod Runs
