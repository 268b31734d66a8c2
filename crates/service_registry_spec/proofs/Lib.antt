pub mod Refusals
pub mod Leaves
pub mod Hops
pub mod Tables
pub mod Goods
