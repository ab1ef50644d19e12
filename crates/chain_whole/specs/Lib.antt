pub mod Answers
pub mod Chained
pub mod Founding
pub mod Pending
pub mod Supplies
