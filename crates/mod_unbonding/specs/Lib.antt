pub mod Calls
pub mod Items
pub mod Scenes
pub mod Walked
