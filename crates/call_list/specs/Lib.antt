-- What is promised of a whole list of calls, and demand 3 as a claim about every list.
pub mod Listing
pub mod Internal
pub mod Demand
