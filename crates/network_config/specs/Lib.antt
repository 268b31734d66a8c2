pub mod Hosts
pub mod FileNames
pub mod Rules
pub mod NodeRules
