pub mod Track
pub mod Keys
pub mod Index
pub mod Following
pub mod Table
pub mod Known
pub mod Sound
