pub mod SplitLaws
pub mod CellLaws
