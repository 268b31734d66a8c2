pub mod Costs
pub mod Tables
pub mod Best
pub mod Rises
pub mod Rows
pub mod Sorting
pub mod Hops
