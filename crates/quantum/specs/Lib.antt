-- An open quantum, by its accepted events.
pub mod Represents
-- Its words.
pub mod Words
-- What its functions promise to each other.
pub mod Internal
