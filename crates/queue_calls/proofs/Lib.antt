pub mod Kept
pub mod Legal
pub mod Values
pub mod Slots
pub mod Components
pub mod Whole
pub mod Answering
