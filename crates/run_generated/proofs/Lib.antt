pub mod DrawLemmas
pub mod EachLemmas
pub mod LineLemmas
mod MessageLemmas
pub mod OnLiterals
pub mod ReadLemmas
mod TokenLemmas
mod WritingLemmas
