-- What the search for wanted tags promises to the scan of a log. Internal is only what private functions promise each other.
pub mod Slots
pub mod Internal
