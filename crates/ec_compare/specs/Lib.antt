pub mod Lists
pub mod Points
pub mod Stretches
pub mod TailNotes
