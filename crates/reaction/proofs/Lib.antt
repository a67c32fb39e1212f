pub mod Going
pub mod Firing
pub mod Settling
pub mod RunLaws
pub mod StartLaws
