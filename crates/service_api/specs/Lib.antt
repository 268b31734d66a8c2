pub mod Adverts
pub mod Routes
pub mod Schemes
pub mod Services
pub mod Rows
