pub mod ClapLemmas
pub mod NumberLemmas
pub mod RowLemmas
