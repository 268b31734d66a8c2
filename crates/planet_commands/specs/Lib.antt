pub mod Said
pub mod Own
pub mod Takes
pub mod Renders
pub mod Checks
pub mod Shows
pub mod Causes
pub mod Notes
