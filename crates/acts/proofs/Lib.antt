pub mod Finding
pub mod Acting
pub mod Marking
