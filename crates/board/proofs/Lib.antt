-- The library's words for a test of every element and for a sum, as the papers' definitions say them, and a board's answer by its tests.
pub mod Fronts
pub mod Boards
