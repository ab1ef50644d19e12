pub mod Making
pub mod Migrating
pub mod Stored
