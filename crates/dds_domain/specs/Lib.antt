-- The definitions that contracts cite, by subject.
pub mod Turns
pub mod Earliness
pub mod Opening
pub mod Fragmented
pub mod Heard
pub mod Sharings
pub mod Participants
pub mod Matched
