pub mod AppliedChanges
mod CalmTimes
mod ClashLemmas
mod LastMarks
pub mod Lists
pub mod MadeChanges
mod NearMarks
mod NextClash
mod NotedChanges
mod PastMarks
mod RowClashes
mod SeenRowLemmas
