pub mod Stands
pub mod Running
pub mod Happening
pub mod Printing
pub mod Keeping
