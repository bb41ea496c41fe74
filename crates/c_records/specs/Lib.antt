-- What the call answers.
pub mod Records
