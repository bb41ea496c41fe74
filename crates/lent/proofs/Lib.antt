-- Parts laid into lent words, and the words of values read back.
pub mod Parts
pub mod Back
