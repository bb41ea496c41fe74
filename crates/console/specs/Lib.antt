-- What is read of a program's input.
pub mod Reading
