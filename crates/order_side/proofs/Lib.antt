-- Laws, by subject.
pub mod Lists
pub mod Columns
pub mod Shifting
pub mod Words
pub mod Stores
pub mod Seen
pub mod Changes
