pub mod HeldLemmas
mod BrokenLemmas
mod ClashSearch
mod ClashTimes
mod EventLemmas
mod HoldingLemmas
mod ListedLemmas
mod NextOfOrder
mod SpanLemmas
pub mod WritingLemmas
mod StretchLemmas
mod Lasts
mod LastBegins
mod NextBreaks
mod FirstCauses
mod EventWalks
mod ReasonCases
mod BreakSearch
mod OnMarks
mod ShownEffects
mod OnParts
mod SoughtEntries
mod KeptWalks
mod ToldReasons
