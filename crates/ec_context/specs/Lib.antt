pub mod Entries
pub mod Activity
pub mod Widened
pub mod RulePlaces
