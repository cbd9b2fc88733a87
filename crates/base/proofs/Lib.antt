pub mod Puts
pub mod Search
pub mod Found
pub mod Sinks
pub mod Places
pub mod Verdicts
