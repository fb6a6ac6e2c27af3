pub mod Entries
pub mod History
pub mod Uses
pub mod Weaving
pub mod Knowing
pub mod Faults
pub mod Woven
