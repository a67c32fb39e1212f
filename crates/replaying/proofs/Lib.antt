pub mod Passing
pub mod Turning
pub mod Folding
pub mod Coursing
pub mod Telling
pub mod Events
