pub mod Laws
pub mod Finding
