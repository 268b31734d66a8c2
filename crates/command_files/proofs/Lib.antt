pub mod AuditLaws
pub mod CutLaws
pub mod PortLaws
