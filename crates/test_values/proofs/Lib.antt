pub mod RowKindLemmas
