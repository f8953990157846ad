pub mod EventFile
pub mod ShownLine
pub mod Reading
pub mod Verdicts
pub mod Laws
pub mod Examples
