pub mod RegistryState
pub mod Packages
pub mod Laws
pub mod Meets
pub mod Arguments
