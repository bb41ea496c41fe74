-- A quantum's duty and clock, by its accepted events.
pub mod Clocks
-- Their words.
pub mod Words
