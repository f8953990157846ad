pub mod Events
pub mod Switched
pub mod Mended
pub mod Aim
