-- Laws about the frame of a message: the shape of its bytes, and when it is refused or accepted.
pub mod Shapes
pub mod Frames
pub mod Refusing
pub mod Accepting
pub mod Framing
