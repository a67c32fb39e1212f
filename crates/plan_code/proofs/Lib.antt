pub mod Walk
pub mod Named
pub mod Executing
pub mod Reading
pub mod Skipping
