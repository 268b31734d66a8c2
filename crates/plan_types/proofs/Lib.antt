pub mod Answered
pub mod Formed
pub mod Loops
