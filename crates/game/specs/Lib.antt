-- Document 02, W14, "Maker against taker", as definitions: read from the top.
pub mod Play
pub mod Ways
pub mod Value
pub mod Answers
