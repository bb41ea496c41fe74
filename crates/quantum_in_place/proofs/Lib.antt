-- What an event does to the words of a quantum.
pub mod Quanta
pub mod Ticks
pub mod Amends
pub mod Whole
pub mod AnyFields
