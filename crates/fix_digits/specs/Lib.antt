-- A number as 64 bits hold it. Internal is only what private functions promise each other.
pub mod Capped
pub mod Internal
