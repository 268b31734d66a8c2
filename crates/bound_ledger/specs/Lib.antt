pub mod Counts
pub mod Keys
pub mod Rows
pub mod Counting
pub mod Stands
