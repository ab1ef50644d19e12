mod StakeLemmas
mod TrialLemmas
