pub mod Facts
pub mod Thin
pub mod Tests
pub mod Linking
pub mod Lining
pub mod Filling
pub mod Loop
