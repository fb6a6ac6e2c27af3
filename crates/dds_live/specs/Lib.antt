pub mod Ports
pub mod Moments
pub mod Addresses
pub mod Ends
pub mod States
pub mod Openings
pub mod Turns
