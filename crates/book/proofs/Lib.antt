pub mod Facted
pub mod Bounds
