-- The definitions that contracts cite, by subject.
pub mod Kinds
pub mod Turned
pub mod Builtin
pub mod Keys
pub mod Samples
pub mod Sides
