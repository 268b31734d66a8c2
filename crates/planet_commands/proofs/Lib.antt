pub mod Refusing
pub mod Taking
pub mod Rendering
pub mod ShowLemmas
pub mod Showing
pub mod Telling
