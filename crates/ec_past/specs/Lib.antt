pub mod Records
pub mod Logged
pub mod Journals
pub mod Ways
pub mod Viewing
pub mod Chronicles
