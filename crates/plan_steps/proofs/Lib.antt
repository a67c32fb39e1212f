pub mod Firing
pub mod Settling
