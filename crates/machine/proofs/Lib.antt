pub mod Gates
pub mod Starts
pub mod Runs
pub mod Waits
