pub mod Programs
pub mod Parts
pub mod Gathers
pub mod Messages
pub mod Saying
pub mod Places
