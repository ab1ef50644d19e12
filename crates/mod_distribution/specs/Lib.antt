pub mod Calls
pub mod Fitting
pub mod Heights
pub mod Items
pub mod Kept
pub mod Lawful
pub mod Stands
pub mod Tells
