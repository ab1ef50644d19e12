pub mod Ballots
pub mod Tally
pub mod Taken
pub mod Exact
pub mod Counting
pub mod Laws
pub mod Worked
