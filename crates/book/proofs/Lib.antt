-- Laws, by subject.
pub mod Sides
pub mod Events
pub mod Changes
pub mod Causes
pub mod Applied
pub mod ByKind
pub mod EventAnswered
pub mod Searching
