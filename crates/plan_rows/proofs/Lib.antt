pub mod Codes
pub mod Rows
pub mod Blocks
pub mod Verdict
pub mod Kept
pub mod Well
