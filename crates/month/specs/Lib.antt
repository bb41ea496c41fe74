pub mod Represents
pub mod Words
pub mod Internal
