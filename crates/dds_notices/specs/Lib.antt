pub mod Masks
pub mod Notices
pub mod Listeners
pub mod Slotted
