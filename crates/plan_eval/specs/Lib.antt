pub mod Given
pub mod Walk
pub mod Tasks
pub mod Turns
pub mod Start
