pub mod KeyLaws
pub mod RowLaws
pub mod ByFamily
pub mod Grants
pub mod LineLaws
pub mod Runs
