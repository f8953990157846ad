pub mod FeedState
pub mod ShownLine
pub mod ShownAnswer
pub mod ShownCommand
