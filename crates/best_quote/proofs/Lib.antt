-- Laws about a side's depth, the search and its count, and loops over a side's columns.
pub mod Finding
pub mod Levels
pub mod Loops
pub mod Short
pub mod Sums
