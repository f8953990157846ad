pub mod Changes
pub mod Clashes
pub mod CurrencyLaws
pub mod SeenRows
pub mod Table
