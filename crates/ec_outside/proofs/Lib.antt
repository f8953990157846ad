pub mod Counts
pub mod FailingCalls
pub mod FoundFiles
pub mod Streams
pub mod Texts
pub mod Waiting
