pub mod Standing
pub mod Arriving
pub mod Revise
pub mod CarriedOut
