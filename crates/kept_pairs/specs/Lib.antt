pub mod Internal
pub mod Gathered
