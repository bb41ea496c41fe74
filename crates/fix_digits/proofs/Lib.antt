-- The laws that the loops over digits and over bytes go by, and those about bounds of 32 bits.
pub mod Sums
pub mod Numbers
pub mod Signs
