pub mod Added
pub mod Forms
pub mod Groups
pub mod Kept
pub mod Keys
pub mod Neighbours
pub mod CurrentProps
