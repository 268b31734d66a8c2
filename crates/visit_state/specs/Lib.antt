pub mod Stored
pub mod Meets
pub mod Handlers
