pub mod Promised
pub mod Agreed
