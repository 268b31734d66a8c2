pub mod FileMapLemmas
pub mod PieceLemmas
pub mod SinkLaws
pub mod SpawnerLaws
pub mod ChildLemmas
pub mod FileWrites
pub mod Taking
