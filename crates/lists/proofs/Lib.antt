-- Laws of lists and counts, by subject.
pub mod Lists
pub mod Members
pub mod Counting
