pub mod Turns
pub mod Windows
pub mod Stale
