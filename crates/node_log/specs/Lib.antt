pub mod Nodes
pub mod Replays
pub mod Entries
pub mod Runs
pub mod Texts
pub mod Follow
