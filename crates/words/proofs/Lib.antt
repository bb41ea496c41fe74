-- Laws of two's complement, of a list with a value for each place, and of words and their bytes.
pub mod Complement
pub mod Places
pub mod Bytes
pub mod Back
