-- What an accepted event does to the ids, and the words after them.
pub mod Effects
pub mod Notes
pub mod Groups
