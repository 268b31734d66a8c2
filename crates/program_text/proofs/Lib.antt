pub mod Scanning
pub mod Sizes
pub mod Readings
