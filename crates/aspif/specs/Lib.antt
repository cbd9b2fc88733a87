pub mod Faults
pub mod Texts
pub mod Integers
pub mod Write
