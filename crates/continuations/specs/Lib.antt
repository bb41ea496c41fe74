-- What may follow an open quantum's present, and what the outlook says of it.
pub mod Continuations
