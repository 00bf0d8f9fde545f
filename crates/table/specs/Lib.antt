pub mod Fits
pub mod Tests
pub mod Choices
pub mod Tables
