pub mod AccountLemmas
pub mod BackingLemmas
pub mod CountLemmas
pub mod KeyLemmas
pub mod TallyLemmas
