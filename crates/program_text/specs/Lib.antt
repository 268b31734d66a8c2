pub mod Scanned
pub mod Texts
pub mod Reasons
