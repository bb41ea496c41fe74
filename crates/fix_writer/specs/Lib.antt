-- What a message that was written shows, and what is claimed of it. Internal is only what private functions promise each other.
pub mod Answers
pub mod Claims
pub mod Internal
