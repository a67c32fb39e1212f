pub mod CellLaws
pub mod LineLaws
pub mod RowLaws
pub mod WriteLaws
