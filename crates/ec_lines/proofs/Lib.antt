pub mod CutLines
pub mod Digits
pub mod FeedLemmas
pub mod ReplyTexts
pub mod SplitLines
pub mod WordLemmas
