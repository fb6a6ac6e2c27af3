pub mod Addresses
pub mod Announced
pub mod Misfits
pub mod Told
