-- What a call on a month's words, in place, promises.
pub mod Events
-- Words that a caller lends.
pub mod Entry
