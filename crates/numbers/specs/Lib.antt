-- The greatest number that passes a test: a root and a rounded product are such numbers.
pub mod Greatest
