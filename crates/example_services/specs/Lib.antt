pub mod Counts
pub mod Laws
pub mod Offered
pub mod Packets
pub mod Serving
pub mod Visits
