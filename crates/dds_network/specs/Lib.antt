-- The definitions that contracts cite, by subject.
pub mod Quiet
pub mod Works
pub mod Networks
