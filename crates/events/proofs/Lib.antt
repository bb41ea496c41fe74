-- Laws, by subject.
pub mod Represents
pub mod Steps
pub mod Numbers
