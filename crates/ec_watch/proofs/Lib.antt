pub mod Rows
pub mod Edits
pub mod Cuts
pub mod Lists
pub mod Places
pub mod Gathered
pub mod Sorted
