pub mod Kinds
pub mod Named
pub mod Reading
pub mod Writing
pub mod Pieces
pub mod Measures
pub mod Decoded
pub mod Internal
