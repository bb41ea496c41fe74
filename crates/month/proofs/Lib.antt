pub mod Answers
pub mod Fields
pub mod Calls
pub mod Asks
pub mod Messages
pub mod Words
