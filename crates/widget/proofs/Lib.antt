pub mod Noting
pub mod Going
pub mod Effects
pub mod Loops
pub mod Every
pub mod Tests
pub mod Ending
