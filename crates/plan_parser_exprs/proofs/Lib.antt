pub mod Mores
pub mod Builds
pub mod Chains
pub mod StartLaws
