pub mod Orders
pub mod Readings
pub mod NearRuns
pub mod NotedLists
pub mod NotedLiterals
pub mod States
pub mod Wanting
