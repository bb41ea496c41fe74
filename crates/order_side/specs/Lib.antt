-- The one value of a side's words for its orders, and what the functions on it promise.
pub mod Slots
pub mod Internal
