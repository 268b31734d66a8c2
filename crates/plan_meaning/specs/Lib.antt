pub mod Laws
pub mod State
pub mod Run
pub mod Meaning
pub mod Visit
pub mod Safe
