-- The answer that some words say, and that the plain book's answers fit their words.
pub mod Back
pub mod Fits
