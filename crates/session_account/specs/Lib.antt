pub mod Shown
pub mod Internal
pub mod Gathered
