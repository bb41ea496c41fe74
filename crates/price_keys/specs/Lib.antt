-- Prices as keys.
pub mod Keys
-- What the code's spread test compares with.
pub mod Widest
