pub mod Touched
pub mod Looked
pub mod Ready
