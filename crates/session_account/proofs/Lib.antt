pub mod Parts
pub mod Growing
pub mod Gathered
pub mod Runs
pub mod Halting
pub mod Endings
pub mod Theorems
pub mod Few
