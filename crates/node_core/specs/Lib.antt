pub mod Stands
pub mod Turning
pub use Rattle.node_core_parts.specs.Turns
