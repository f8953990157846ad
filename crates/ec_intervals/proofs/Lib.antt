pub mod KeptRows
mod Options
mod Pass
mod Cut
mod TwoRows
pub mod SpanCuts
mod Reading
pub mod Spliced
mod Walking
mod Covering
mod LastBefore
pub mod OneMark
mod PassOrder
pub mod Written
mod FirstBroken
mod ChangedMark
mod Growth
mod Inert
mod ReachLemmas
mod NearLemmas
mod Counted
pub mod HistoryRows
