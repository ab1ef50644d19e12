pub mod StakingTrials
pub mod UnbondingTrials
