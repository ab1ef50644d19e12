pub mod FillLemmas
pub mod HoldLemmas
pub mod LoadedLemmas
pub mod NewLemmas
