pub mod Entries
pub mod Held
pub mod Standing
pub mod Readers
