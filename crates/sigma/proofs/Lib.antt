-- Laws about numbers and lists that the crate's proofs cite. Changes and Lists are also for the crates above.
pub mod Changes
pub mod Roots
pub mod Squares
pub mod Lists
pub mod Last
-- the definitions on small examples
pub mod Examples
