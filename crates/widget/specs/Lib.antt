pub mod View
pub mod Acts
