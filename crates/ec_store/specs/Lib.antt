pub mod ByText
pub mod EventRecords
pub mod Held
pub mod Identities
pub mod PropKeys
pub mod Slots
pub mod Store
pub mod Table
