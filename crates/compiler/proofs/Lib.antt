pub mod Bounds
pub mod Ordering
pub mod Heading
pub mod Whole
