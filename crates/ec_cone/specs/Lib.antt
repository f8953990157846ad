pub mod Closed
pub mod Forms
pub mod Cone
pub mod Growing
pub mod Label
pub mod Examples
pub mod ConeLaws
