pub mod GatherLemmas
pub mod KeyLemmas
pub mod ListedLemmas
pub mod OnceLaws
pub mod OrderLemmas
