pub mod Answers
pub mod Best
pub mod Spans
pub mod Steps
pub mod Entries
