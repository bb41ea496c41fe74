-- What refuses an event, off the words of an open quantum.
pub mod Refusals
-- A call on a month's words, by what the book does.
pub mod Changes
-- A commit.
pub mod Commits
-- A message.
pub mod Messages
