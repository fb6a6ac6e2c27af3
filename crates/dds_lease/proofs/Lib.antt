pub mod TrackLaws
pub mod FindingLaws
pub mod DeathLaws
pub mod PartingLaws
pub mod StandingLaws
