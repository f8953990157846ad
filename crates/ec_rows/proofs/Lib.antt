pub mod KnownByTimes
pub mod MarkLemmas
pub mod OrderedLemmas
pub mod OrderedPairs
pub mod RunLemmas
pub mod SpanLemmas
pub mod TimedLemmas
pub mod TimeLemmas
