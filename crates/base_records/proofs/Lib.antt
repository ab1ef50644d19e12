pub mod AscendLemmas
pub mod KindLemmas
pub mod MarkLemmas
pub mod MemberLemmas
pub mod RowLemmas
pub mod RowedLemmas
pub mod SameLemmas
pub mod WalkLemmas
