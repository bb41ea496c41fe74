-- Laws, by subject.
pub mod Needs
pub mod Resting
pub mod Until
pub mod Endings
pub mod Outlooks
pub mod Meaning
