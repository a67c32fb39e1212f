pub mod Leading
pub mod Taking
