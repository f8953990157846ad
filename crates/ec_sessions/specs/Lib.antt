pub mod LineSteps
pub mod Answering
pub mod Drafts
pub mod Handling
pub mod SessionsState
pub mod StepLaws
