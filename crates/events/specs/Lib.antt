-- An event on the duty, the clock and the table of an open quantum.
pub mod Represents
-- What its functions promise to each other.
pub mod Internal
