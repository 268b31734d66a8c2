pub mod CodeKept
pub mod Whole
