pub mod Known
pub mod Levels
pub mod Loops
pub mod Values
