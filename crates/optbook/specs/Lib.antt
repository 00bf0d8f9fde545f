pub mod Tallies
pub mod Words
pub mod Pages
pub mod Answers
pub mod Desks
pub mod Ledgers
pub mod Runs
