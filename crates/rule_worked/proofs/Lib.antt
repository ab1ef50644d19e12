pub mod Unfair
