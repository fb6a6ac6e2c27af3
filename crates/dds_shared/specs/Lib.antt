pub mod Seeds
pub mod Passes
pub mod Locks
pub mod Waits
pub mod Closings
