-- What a message that was read shows. Internal is only what private functions promise each other.
pub mod Answers
pub mod Internal
