pub mod Calls
pub mod Items
pub mod Joint
pub mod KnownSet
pub mod Listed
pub mod Places
pub mod Registered
pub mod Scenes
