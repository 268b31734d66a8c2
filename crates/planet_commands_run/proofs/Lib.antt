pub mod Replaying
pub mod Logs
