pub mod AddressLemmas
pub mod BeginLemmas
pub mod PieceLemmas
pub mod ReadLemmas
