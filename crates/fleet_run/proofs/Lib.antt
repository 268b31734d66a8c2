pub mod ChildLaws
pub mod FleetLaws
pub mod Prefixes
