-- Laws, by subject.
pub mod Sides
pub mod Slots
pub mod Table
pub mod Orders
pub mod Opposite
pub mod Quotes
