pub mod Digits
pub mod Division
pub mod Form
pub mod Inverse
pub mod Nearest
pub mod Quotients
pub mod Written
