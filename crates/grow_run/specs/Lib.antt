pub mod Programs
pub mod Pings
pub mod Events
pub mod Draws
pub mod Grow
pub mod Summaries
pub mod Growths
