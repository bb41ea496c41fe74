-- What records on a month promise.
pub mod Records
-- What the functions promise to each other.
pub mod Internal
