-- The state now, in words, and what a view promises.
pub mod Views
-- What its functions promise to each other.
pub mod Internal
