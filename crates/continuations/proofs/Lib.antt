-- The claims proved.
pub mod Latest
pub mod Cells
pub mod Weights
pub mod Events
pub mod Foreseen
