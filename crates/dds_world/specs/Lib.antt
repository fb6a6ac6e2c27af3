pub mod WorldStanding
pub mod Posting
pub mod Acting
pub mod Round
pub mod Repairing
pub mod Holding
pub mod HeldSteps
pub mod Coming
