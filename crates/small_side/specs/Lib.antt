-- What the search of a small side promises.
pub mod Small
-- What its functions promise to each other.
pub mod Internal
