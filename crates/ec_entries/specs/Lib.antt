pub mod Dependents
pub mod Noting
pub mod Wanted
