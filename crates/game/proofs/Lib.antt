-- The closed form, the laws of a play, the theorem, and the answers.
pub mod Closed
pub mod Recurrence
pub mod Answers
pub mod Play
pub mod Ways
pub mod Theorem
