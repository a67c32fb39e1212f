pub mod Said
pub mod Rows
pub mod Letters
pub mod Named
