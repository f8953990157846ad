pub mod FileLimits
pub mod FileLines
pub mod Differences
mod ProofTexts
