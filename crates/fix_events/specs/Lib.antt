-- What a message promises of a quantum.
pub mod Answers
-- What its functions promise to each other.
pub mod Internal
