pub mod Says
pub mod Session
pub mod Stages
