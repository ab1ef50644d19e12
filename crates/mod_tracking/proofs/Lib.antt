pub mod Lists
pub mod Following
