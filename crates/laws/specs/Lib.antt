pub mod Runs
pub mod Lots
pub mod Limits
pub mod Laws
