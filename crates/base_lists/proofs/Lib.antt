pub mod PlaceLemmas
pub mod RepeatLemmas
