pub mod Examining
pub mod UniquePlans
pub mod UniquePlanned
