pub mod Lines
pub mod ReportLaws
pub mod Room
pub mod Session
pub mod Lent
pub mod Stretch
