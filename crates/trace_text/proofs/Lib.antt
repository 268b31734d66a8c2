pub mod Forward
pub mod Printing
