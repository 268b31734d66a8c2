pub mod Steps
pub mod Layers
pub mod Heads
pub mod Right
pub mod Follows
pub mod Reaches
pub mod Itself
pub mod Full
pub mod Programs
pub mod Unique
mod ByLength
pub mod Same
pub mod Shapes
pub mod Fitting
