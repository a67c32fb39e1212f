pub mod Falling
pub mod Keeping
pub mod Visiting
pub mod Arriving
pub mod Descending
