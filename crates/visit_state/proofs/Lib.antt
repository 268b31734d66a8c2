pub mod Options
pub mod Paying
pub mod Handling
pub mod Sending
