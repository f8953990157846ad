pub mod TouchRows
pub mod OnceListed
