-- Laws about lists and numbers that the crate's proofs cite, from the step of the code to the answer.
pub mod Steps
pub mod Periods
pub mod Windows
pub mod Phases
pub mod Represents
pub mod Answers
-- the periods are apart
pub mod Apart
-- the definitions on small examples
pub mod Examples
