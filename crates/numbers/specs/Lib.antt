pub mod Numbers
pub mod NumbersLawful
pub mod NumbersLaw
