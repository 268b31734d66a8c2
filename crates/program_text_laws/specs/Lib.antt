pub mod Lexes
pub mod Proper
pub mod PrintedTokens
pub mod Reads
pub mod Written
