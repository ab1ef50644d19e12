pub mod ApplyLemmas
pub mod BeginLemmas
mod BeginningLemmas
pub mod BlockLemmas
mod CallLemmas
pub mod CheckLemmas
pub mod EndLemmas
pub mod EvidenceLemmas
pub mod LeadLemmas
pub mod HearLemmas
mod LoopLemmas
pub mod OpenLemmas
mod TakesLemmas
