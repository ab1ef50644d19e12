pub mod Calls
pub mod Items
pub mod Kept
pub mod Lawful
pub mod Laws
pub mod Resizing
pub mod Rings
pub mod Stands
