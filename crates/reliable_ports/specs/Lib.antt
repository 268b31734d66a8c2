pub mod Programs
pub mod Texts
pub mod Ends
pub mod Scripts
