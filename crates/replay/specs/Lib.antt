pub mod Books
pub mod Sends
pub mod Replays
