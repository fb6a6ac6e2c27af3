mod Standings
pub mod ListenerLaws
