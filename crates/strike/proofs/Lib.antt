-- Laws about a strike's spread limit. Rounding is also for the crates above.
pub mod Squares
pub mod Rounding
-- the limit on examples
pub mod Examples
