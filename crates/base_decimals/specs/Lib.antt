pub mod Decimals
pub mod Fractions
pub mod Laws
pub mod Rounding
pub mod Texts
pub mod Worked
