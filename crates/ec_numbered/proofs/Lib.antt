pub mod Numbers
pub mod ByNumberLemmas
mod KeyedRowLemmas
mod NumberPlaceLemmas
pub mod DueLemmas
