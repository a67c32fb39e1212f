pub mod Wholes
pub mod RowTests
pub mod Loops
pub mod Blocks
pub mod Verdicts
