pub mod WriterState
pub mod Answers
pub mod Gaps
pub mod Acknack
pub mod Registered
pub mod Liveliness
pub mod LivelinessKept
pub mod Standing
