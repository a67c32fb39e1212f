pub mod Replay
pub mod Promises
pub mod Saved
pub mod Host
