pub mod Ballots
pub mod Worked
