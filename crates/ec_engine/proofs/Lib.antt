pub mod Standings
pub mod Revising
pub mod WorkDone
pub mod StepSums
pub mod Carried
pub mod Arrivals
pub mod WatchedTails
