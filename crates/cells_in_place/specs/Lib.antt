-- The words of a month's cells, and what a call on one of them promises.
pub mod Cells
