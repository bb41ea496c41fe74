-- Laws, by subject.
pub mod Answers
pub mod Words
pub mod Noting
