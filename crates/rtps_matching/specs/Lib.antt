-- The definitions that contracts cite, by subject.
pub mod Matches
pub mod Misfits
pub mod Steps
pub mod Laws
