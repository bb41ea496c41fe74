-- What an event does to the live orders and their table, and what it promises.
pub mod Events
pub mod EventAnswered
-- W3's count, for every list of accepted events.
pub mod Searching
-- What the functions of the events promise to each other.
pub mod Internal
