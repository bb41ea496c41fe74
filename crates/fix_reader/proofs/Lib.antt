-- Laws about the values of slots and what they say together; and the definitions on small messages.
pub mod Values
pub mod Saying
pub mod Reading
pub mod Answers
pub mod Times
pub mod Examples
