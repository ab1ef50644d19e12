pub mod Gathering
pub mod Plain
pub mod States
