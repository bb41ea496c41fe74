-- The words of a quantum that opens.
pub mod Opened
-- A month's words with another part in place of one of its own.
pub mod Parts
-- What each call does to them.
pub mod Quanta
-- What a report and an outlook show of them.
pub mod Shown
-- Open and close.
pub mod Openings
-- The fresh month.
pub mod FreshWords
