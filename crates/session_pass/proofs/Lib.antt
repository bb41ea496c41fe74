pub mod Runs
pub mod Passes
pub mod Opened
