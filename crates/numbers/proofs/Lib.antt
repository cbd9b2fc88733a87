pub mod Spelled
pub mod Encoded
