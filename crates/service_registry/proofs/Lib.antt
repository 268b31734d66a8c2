pub mod ArgumentReads
pub mod Puts
pub mod Kept
pub mod TakenTypes
pub mod ByLength
