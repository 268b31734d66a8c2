pub mod DeclarationSteps
pub mod Items
pub mod Answered
pub mod FormedTypes
pub mod FormedNodes
pub mod FormedReads
pub mod FormedPrograms
pub mod FormedValues
