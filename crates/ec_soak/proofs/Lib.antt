pub mod CutLoads
pub mod Loads
pub mod StateLemmas
pub mod TallySteps
