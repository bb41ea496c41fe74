-- What the private functions promise to each other.
pub mod Internal
