pub mod Numbers
pub mod Words
pub mod Modifiers
pub mod Policies
