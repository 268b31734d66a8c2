pub mod Handlers
pub mod Tellings
pub mod Sums
pub mod Sends
