pub mod Fit
pub mod Open
pub mod Sums
pub mod Taking
pub mod Queues
