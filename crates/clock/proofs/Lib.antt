-- Laws, by subject.
pub mod Clocks
pub mod Words
