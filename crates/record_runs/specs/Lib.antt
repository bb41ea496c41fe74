pub mod Internal
pub mod Gather
