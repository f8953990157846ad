pub mod Answered
pub mod ByShape
pub mod CommandEnds
pub mod Ending
pub mod Ends
pub mod InputLimits
pub mod Serving
pub mod Soaking
