-- The loop over a whole list, and demand 3.
pub mod Nexts
pub mod Listing
pub mod Demand
