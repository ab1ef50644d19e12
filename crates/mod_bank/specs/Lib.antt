pub mod Booked
pub mod Given
pub mod Items
pub mod Laws
pub mod Scenes
pub mod Sending
pub mod Worked
