pub mod Faults
pub mod Told
pub mod Compose
pub mod Rewrite
