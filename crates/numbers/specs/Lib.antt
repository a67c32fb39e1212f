pub mod Equal
pub mod Range
pub mod Hold
pub mod Place
pub mod Reference
