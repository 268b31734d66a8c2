pub mod Lines
pub mod Written
pub mod Parts
pub mod Schedules
pub mod Leaving
pub mod Answers
