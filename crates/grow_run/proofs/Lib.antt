pub mod Arguments
pub mod PingTyping
pub mod PingText
pub mod Drawing
pub mod Growing
pub mod RingRules
pub mod Summing
