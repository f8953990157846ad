pub mod Lines
pub mod Commands
pub mod Answers
pub mod QueryTexts
pub mod Relations
