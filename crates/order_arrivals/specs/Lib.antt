-- The ids of the live orders, in the order in which they were added.
pub mod Arrivals
-- They and what the quantum was opened with, in words.
pub mod Notes
