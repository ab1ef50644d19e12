mod Burned
pub mod Inputs
pub mod OfLines
mod Reported
pub mod Room
mod TryingLemmas
