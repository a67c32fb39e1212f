pub mod Names
pub mod Root
pub mod Answers
pub mod Replay
