pub mod Days
pub mod Places
pub mod Stamps
pub mod Texts
