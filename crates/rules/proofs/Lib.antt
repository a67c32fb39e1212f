pub mod Tests
pub mod Every
pub mod Children
pub mod Clauses
pub mod Letters
pub mod Verdicts
pub mod Kept
pub mod KindTests
