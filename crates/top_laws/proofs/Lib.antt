pub mod Segments
pub mod Glue
pub mod Lists
pub mod TypeTokens
pub mod ExprTokens
pub mod ProgramTokens
pub mod ValueTokens
pub mod ValuesRead
pub mod ExactLaws
pub mod ProgramsAgain
pub mod ValuesAgain
mod MovedCounts
mod LinesMoved
pub mod ConfigCounts
pub mod AskCounts
pub mod LogCounts
pub mod CutCounts
pub mod PortCounts
pub mod ListCounts
pub mod Leading
pub mod FleetRead
pub mod AskRead
pub mod ConfigHead
pub mod ConfigRead
pub mod Ends
