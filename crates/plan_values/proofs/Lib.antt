pub mod Arguments
pub mod Blobs
pub mod ListLaws
pub mod NumberLaws
pub mod Fit
