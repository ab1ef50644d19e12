pub mod Calls
pub mod Sets
