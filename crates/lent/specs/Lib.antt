-- The words of what a caller lends words for.
pub mod Words
