pub mod ProgramRefusals
pub mod Refusals
pub mod Flat
pub mod FrameRefusals
