-- Document 02, W12, from prices to sigmas: read from the top. Internal is what the code answers of two
-- prices; no public contract of another crate cites it.
pub mod Changes
pub mod Sigmas
pub mod Internal
