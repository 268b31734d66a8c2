pub mod Places
pub mod Leads
pub mod Forms
pub mod Spots
pub mod Flow
pub mod Loop
pub mod Laws
