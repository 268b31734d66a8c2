pub mod Drops
pub mod HostLaws
pub mod LeavingLaws
pub mod ReadingLaws
pub mod SendLaws
pub mod TurnLaws
pub mod WindowLaws
