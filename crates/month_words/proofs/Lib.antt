-- What a call does to the words.
pub mod Calling
-- Blocks that are events.
pub mod Events
-- Calls that show something.
pub mod Tags
-- An open's row.
pub mod Rows
-- What a call leaves in the hints.
pub mod Hints
