pub mod Climb
pub mod Up
pub mod On
pub mod Passing
pub mod Levels
pub mod Among
pub mod Aiming
