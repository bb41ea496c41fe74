-- Laws about numbers and lists that the crate's proofs cite.
pub mod Series
