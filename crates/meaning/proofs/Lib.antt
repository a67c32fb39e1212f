pub mod Starred
pub mod Computed
pub mod TextExamples
pub mod Tried
pub mod Refusals
