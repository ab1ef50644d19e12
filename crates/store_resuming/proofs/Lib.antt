pub mod BlockLemmas
pub mod DecideLaws
pub mod KeepLaws
pub mod MessageLemmas
pub mod RestoreLemmas
mod ResumeLemmas
pub mod RewardLemmas
pub mod SharedLemmas
pub mod SideLemmas
pub mod WindowLemmas
