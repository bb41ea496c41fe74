-- Laws about the calls of a list, by subject.
pub mod Rows
pub mod Outcomes
pub mod Performing
pub mod Playing
