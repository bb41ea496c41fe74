-- What the answers show, and what a time that was read keeps. Internal is only what private functions promise each other.
pub mod Answers
pub mod Times
pub mod Internal
