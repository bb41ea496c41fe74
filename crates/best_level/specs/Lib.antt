-- The candidates for a best quote after an event, and what a requote promises.
pub mod Candidates
pub mod CandidateKeys
pub mod Requotes
-- What the functions on the best level promise to each other.
pub mod Internal
pub mod Small
