-- Laws of the scan: where messages begin, their own lengths, their rows, all rows, and what the words of a row say.
pub mod Starting
pub mod Sizing
pub mod Rowing
pub mod Turning
pub mod Going
pub mod Values
