pub mod KidsLeft
pub mod Putting
pub mod Descent
pub mod Joining
