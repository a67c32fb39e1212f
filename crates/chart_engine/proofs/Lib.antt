pub mod ByRules
pub mod TextKept
pub mod Unique
