pub mod Draws
pub mod Load
pub mod Tally
