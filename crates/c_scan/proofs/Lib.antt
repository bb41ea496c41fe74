-- Laws of the words that the scan answers.
pub mod Words
