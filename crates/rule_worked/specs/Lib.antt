pub mod Fees
pub mod Parameters
pub mod Shares
pub mod Slashes
pub mod Stakes
pub mod WrongRules
