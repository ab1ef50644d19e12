pub mod Alphabet
pub mod Digits
pub mod Residue
pub mod Spelling
pub mod Reading
pub mod Worked
