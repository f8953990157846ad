pub mod Body
pub mod Chain
pub mod ChainParts
pub mod Starts
pub mod Tiers
pub mod TiersLend
