-- A side's depth in columns of keys.
pub mod Levels
pub mod Searches
-- W3's number in keys.
pub mod Sums
