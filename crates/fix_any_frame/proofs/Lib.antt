-- Laws about the frame of any type: the shape of its bytes, when it is refused or accepted, and its type as a word.
pub mod Types
pub mod Values
pub mod AnyShapes
pub mod AnyRefusing
pub mod AnyAccepting
pub mod AnyFraming
