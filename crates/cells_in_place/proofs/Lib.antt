-- One cell among the words of all of them.
pub mod Cells
