pub mod Pasted
pub mod Marks
pub mod Inverse
pub mod Refusing
pub mod Loading
pub mod Storing
