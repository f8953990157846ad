pub mod Moment
pub mod Number
