pub mod Sweep
pub mod Visit
pub mod SweepLaws
pub mod Tallied
pub mod Change
pub mod TurnCounts
pub mod ShownTurns
