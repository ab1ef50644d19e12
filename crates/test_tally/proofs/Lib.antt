pub mod Soundness
