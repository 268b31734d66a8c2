pub mod AuditRules
pub mod AuditFiles
pub mod Cuts
pub mod Texts
pub mod PortRules
pub mod PortFiles
