-- Laws about blocks and lists of words, by subject.
pub mod Reading
pub mod Sizes
pub mod Loops
pub mod Pieces
pub mod Decoding
pub mod Writing
pub mod Fronts
