pub mod Calls
pub mod Items
pub mod Own
pub mod Scenes
pub mod Slashed
