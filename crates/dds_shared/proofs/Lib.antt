pub mod Opening
pub mod Seats
pub mod Given
pub mod Seeds
pub mod Looks
pub mod Using
pub mod Locking
