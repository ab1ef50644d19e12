pub mod Again
pub mod Coins
pub mod HistoryLaws
pub mod Laws
pub mod Listed
pub mod PassLaws
pub mod Records
pub mod Referred
