pub mod Attached
pub mod Watched
pub mod NoFilters
pub mod Filtered
pub mod Lent
