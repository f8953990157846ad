pub mod Marks
pub mod Ordered
pub mod PlainMarks
pub mod Spans
pub mod Times
