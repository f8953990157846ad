pub mod Numbers
pub mod Settled
pub mod Looked
pub mod Outcomes
pub mod Holdings
pub mod Present
pub mod Written
pub mod Passing
