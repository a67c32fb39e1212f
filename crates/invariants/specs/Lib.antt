pub mod CallLists
pub mod Good
pub mod Named
