pub mod Failures
pub mod Words
pub mod Sight
pub mod Watching
