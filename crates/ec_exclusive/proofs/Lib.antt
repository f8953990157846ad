pub mod KeptLists
pub mod Excluding
pub mod Leaving
pub mod FieldLists
pub mod InTurn
mod Joined
pub mod FormLemmas
pub mod GroupLemmas
pub mod KeyLemmas
pub mod RowLemmas
pub mod NewRow
pub mod SameTerms
pub mod Grouping
pub mod Grouped
