-- One law for the loops that fill a lent slice, and one for a price read from its word.
pub mod Filling
pub mod Prices
