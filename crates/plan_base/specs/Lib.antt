pub mod Held
pub mod Limits
pub mod Sizes
pub mod Trees
pub mod WellFormed
pub mod Words
pub mod SameTypes
pub mod Groups
