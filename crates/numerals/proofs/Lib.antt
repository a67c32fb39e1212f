pub mod ReadLaws
pub mod Exact
