-- Laws about keys, the spread test, and the widths that prices and keys are computed in.
pub mod Keys
pub mod Spread
pub mod Widths
