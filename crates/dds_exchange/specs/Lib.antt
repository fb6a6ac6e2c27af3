-- The definitions that contracts cite, by subject.
pub mod Entities
pub mod Naming
pub mod Tables
pub mod Told
pub mod Opening
pub mod Going
pub mod States
pub mod Exchanges
pub mod Fitting
pub mod Behind
