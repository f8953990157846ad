pub mod ByNumber
pub mod Due
pub mod KeyedRows
pub mod Lends
pub mod NumberPlaces
pub mod PropSet
