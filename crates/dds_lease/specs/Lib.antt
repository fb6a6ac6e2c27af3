pub mod Overdue
pub mod Track
pub mod Standing
