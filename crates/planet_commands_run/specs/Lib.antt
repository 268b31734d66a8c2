pub mod Schedules
pub mod Grown
pub mod Keeping
