-- Laws about the greatest number that passes a test and the greater of two, for the crates above.
pub mod Greatest
