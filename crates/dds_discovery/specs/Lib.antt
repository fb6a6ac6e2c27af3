-- The definitions that contracts cite, by subject.
pub mod Dues
pub mod Tasks
pub mod Again
pub mod Chores
pub mod States
pub mod Steps
pub mod Events
pub mod Laws
