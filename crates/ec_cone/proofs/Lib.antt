pub mod FormEquality
pub mod Ways
pub mod ConeForms
pub mod ClosedSets
pub mod FilledForms
pub mod ConeClosed
pub mod Reached
pub mod Growth
