pub mod Laws
pub mod Ranges
pub mod Offset
pub mod Elements
