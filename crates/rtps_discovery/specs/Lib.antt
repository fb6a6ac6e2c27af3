pub mod Fits
pub mod Leases
pub mod Rows
pub mod Rooms
pub mod Spdp
pub mod Packets
pub mod Steps
pub mod Laws
