mod BankLemmas
mod CountedLemmas
mod PeriodLemmas
mod StakingLemmas
pub mod UnbondingLemmas
