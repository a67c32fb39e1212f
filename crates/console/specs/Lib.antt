pub mod Scan
pub mod Shown
pub mod Session
pub mod Stretch
