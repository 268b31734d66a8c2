pub mod Audits
pub mod Asks
pub mod Fleets
pub mod Nodes
pub mod Messages
