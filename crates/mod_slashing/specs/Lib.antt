pub mod Calls
pub mod Scenes
