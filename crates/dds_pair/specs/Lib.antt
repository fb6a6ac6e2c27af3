pub mod Serving
pub mod Gating
