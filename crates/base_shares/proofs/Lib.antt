pub mod Fractions
pub mod Issues
pub mod Roundings
pub mod Values
