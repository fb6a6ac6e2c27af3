pub mod Places
pub mod Adding
pub mod Uses
pub mod Octets
pub mod Orders
pub mod HonestRuns
pub mod Interleaved
pub mod Cores
