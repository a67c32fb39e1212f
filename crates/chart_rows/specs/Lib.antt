pub mod Kinds
pub mod Area
