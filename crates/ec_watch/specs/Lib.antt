pub mod Watched
pub mod Tails
