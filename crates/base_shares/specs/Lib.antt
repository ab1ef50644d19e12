pub mod Burns
pub mod Laws
pub mod Shares
pub mod Worked
