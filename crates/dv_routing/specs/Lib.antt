pub mod Routing
pub mod Lanes
pub mod Stands
pub mod Laws
pub mod Sorted
