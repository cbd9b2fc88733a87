pub mod Rules
pub mod Encoding
pub mod Facts
pub mod FactsLawful
pub mod FactsLaw
pub mod Joined
pub mod JoinedLawful
pub mod Faults
