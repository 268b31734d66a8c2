pub mod EventLaws
pub mod HappenLaws
pub mod OpeningLaws
pub mod RunLaws
pub mod StandLaws
