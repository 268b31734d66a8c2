pub mod Asks
pub mod Children
pub mod Fleets
pub mod Runs
