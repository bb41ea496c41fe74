-- What an event does to the words of a month.
pub mod Months
-- The tests that a month's words always pass.
pub mod Entry
-- What is shown of them.
pub mod Looks
pub mod Asks
