-- Where the chosen row's part starts.
pub mod Starts
-- The head of a session.
pub mod Heads
