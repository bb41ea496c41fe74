-- Laws, by subject.
pub mod Runs
pub mod Counts
pub mod Books
pub mod Months
