pub mod Where
pub mod Comes
pub mod Makes
pub mod Takes
pub mod Opens
