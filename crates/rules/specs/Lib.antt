pub mod Family
pub mod Clauses
