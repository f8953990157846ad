pub mod FirstFound
pub mod FewVariables
pub mod FirstFaults
pub mod Matchable
