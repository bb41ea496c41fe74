-- The words in some bytes, and the bytes of some words.
pub mod Bytes
-- The side of a number.
pub mod Sides
