pub mod Tables
pub mod Activity
pub mod Caches
pub mod StandFor
pub mod Mentions
pub mod Initials
pub mod Gathered
pub mod Adoption
